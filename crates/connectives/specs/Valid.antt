-- The law: one computed test of a rule, and what it is worth for every step that keeps the rule.
use Rattle.std.specs.Prelude.{◌≡◌, ℕ, ◌<◌, Bool, true, false, cond, not, ◌&&◌, ◌||◌, List, [], ◌∷◌, length, Some, None, Option, ◌≢◌, nat_lt, refl}
use Rattle.std.specs.List.{list_any, list_all}
use Rattle.std.proofs.Common.{inl, inr, sym, ap, ◌∙◌, subst, arith}
use Rattle.std.specs.Str.{bytes_eq}
use Rattle.std.proofs.lemmas.Bool.{cases_Bool, cond-true, cond-false, and_parts, or_cases, or_left, or_right, not-true, false≢true}
use Rattle.entries.specs.declared.entry.Literal.{Literal}
use Rattle.entries.specs.declared.entry.Name.{Name}
use Rattle.entries.specs.declared.entry.Term.{Term}
use Rattle.entries.specs.Clauses.{holds_literal}
use Rattle.entries.proofs.Filings.{holds_decides}
use Rattle.meaning.specs.Proper.{Proper, term_at}
use Rattle.meaning.specs.Truth.{literal_of, literal_true, clause_true, signed}
use Rattle.meaning.specs.Values.{Reading, is_true}
use Rattle.meaning.proofs.Clauses.{some_at, some_append, some_same}
use Rattle.meaning.proofs.Literals.{literal_true_lem, complement_true}
use Rattle.meaning.proofs.Values.{some_map}
use Rattle.referee.specs.declared.ruling.Ruling.TheVariants.{Yes, Unmet, Arguments}
use Rattle.referee.specs.Meaning.{Lawful, Modest, Entailed}
use Rattle.referee.specs.Questions.{Asked}
use Rattle.referee.specs.Sets.{same_set}
use Rattle.connectives.specs.declared.table.Part.{Part}
use Rattle.connectives.specs.declared.table.Part.TheVariants as part
use Rattle.connectives.specs.declared.table.Piece.{Piece}
use Rattle.connectives.specs.Rules.{stands_for, turned_by, piece_literals, clause_by, connects, is_picked, choices, takes, meets_at, fits_as, meets, is_rule, judged_by, connectives}
use Rattle.connectives.specs.Table.{Rule, table, named, rule_named}
use Rattle.connectives.specs.Search.{is_whole, shows}
use Rattle.connectives.specs.Counts.{below_where}
use Rattle.connectives.specs.Situations.{Situation, situations, Obtains, Arises, sure, sure_is, arises}
use Rattle.connectives.specs.Wanted.{stands_below}

-- ---- one test of each row

-- the rule's premise is false in the situation
abbrev refused : Option Piece → Situation → Bool
refused None c = false
refused (Some p) c = is_whole p.part && not (signed p.negative c.whole)

-- in each situation of the connective the premise is false or some literal of the clause is true
abbrev valid : Rule → Bool
valid r = list_all (λ c. refused r.premise c || list_any (λ (p : Piece). sure c p.part p.negative) r.clause) (situations r.connective)

table_valid : list_all valid table ≡ true
unfolding table
table_valid = refl

table_shows : list_all shows table ≡ true
unfolding table
table_shows = refl

none_some : {X Y : Type 0} (x : X) → ◌≡◌ {A = Option X} None (Some x) → Y
none_some x e = let z : ◌≡◌ {A = ℕ} 0 1 = cc in absurd (omega arith)

-- what holds of every row holds of the rule with a name
of_named : (f : Rule → Bool) (rows : List Rule) (name : List ℕ) (r : Rule) → list_all f rows ≡ true → named rows name ≡ Some r → f r ≡ true
of_named f [] name r a e = none_some r e
of_named f (x ∷ xs) name r a e =
    let p = and_parts (f x) (list_all f xs) a in
    elim (cases_Bool (bytes_eq name x.name)) [
      | inl y ↦ let q : ◌≡◌ {A = Option Rule} (Some x) (Some r) = sym (cond-true _ _ _ y) ∙ e in let z : x ≡ r = cc in subst (λ k. f k ≡ true) z p.0
      | inr y ↦ of_named f xs name r p.1 (sym (cond-false _ _ _ y) ∙ e)
    ]

rule_valid : (name : List ℕ) (r : Rule) → rule_named name ≡ Some r → valid r ≡ true
rule_valid name r e = of_named valid table name r table_valid e

pub rule_shows : (name : List ℕ) (r : Rule) → rule_named name ≡ Some r → shows r ≡ true
rule_shows name r e = of_named shows table name r table_shows e

-- ---- a clause that has each literal of a true one is true
module _ (ρ : Reading) (terms : List Term) where
  has_true : (c : List Literal) (l : Literal) → holds_literal c l ≡ true → literal_true ρ terms l ≡ true → clause_true ρ terms c ≡ true
  has_true c l h e = let w = (holds_decides c l).0 h in some_at (literal_true ρ terms) c w.0 l w.1 (ap (literal_true ρ terms) (w.2 l) ∙ e)

  covers_true : (c d : List Literal) → list_all (holds_literal c) d ≡ true → clause_true ρ terms d ≡ true → clause_true ρ terms c ≡ true
  covers_true c [] h e = absurd (false≢true e)
  covers_true c (l ∷ ls) h e =
      let p = and_parts (holds_literal c l) (list_all (holds_literal c) ls) h in
      elim (or_cases (literal_true ρ terms l) (clause_true ρ terms ls) e) [
        | inl y ↦ has_true c l p.0 y
        | inr y ↦ covers_true c ls p.1 y
      ]

  turned_true : (s : Bool) (l : Literal) → literal_true ρ terms (turned_by s l) ≡ signed s (literal_true ρ terms l)
  turned_true true l = complement_true ρ terms l
  turned_true false l = refl

or_false : (b : Bool) → (b || false) ≡ true → b ≡ true
or_false true e = refl
or_false false e = e

whole_only : (v : ℕ → Bool) (s : Bool) (t i : ℕ) (ns : List ℕ) (k : Part) → is_whole k ≡ true → list_any (λ n. signed s (v n)) (stands_for k t i ns) ≡ true → signed s (v t) ≡ true
whole_only v s t i ns part.Whole w e = or_false (signed s (v t)) e
whole_only v s t i ns part.Picked w e = absurd (false≢true w)
whole_only v s t i ns part.All w e = absurd (false≢true w)
whole_only v s t i ns part.First w e = absurd (false≢true w)
whole_only v s t i ns part.Second w e = absurd (false≢true w)

-- ---- a step that keeps a valid rule
module _ (ρ : Reading) (names : List Name) (terms : List Term) (ok : Proper names terms) (t : ℕ) (h : t < length terms) (i : ℕ) where
  abbrev v : ℕ → Bool
  v n = is_true ρ terms n

  abbrev ns : List ℕ
  ns = (term_at terms t).args

  -- the literals of a letter are true where its terms are
  piece_true : (p : Piece) → list_any (literal_true ρ terms) (piece_literals terms t i p) ≡ list_any (λ n. signed p.negative (v n)) (stands_for p.part t i ns)
  piece_true p =
      some_map (λ n. turned_by p.negative (literal_of terms n)) (literal_true ρ terms) (stands_for p.part t i ns)
      ∙ some_same (λ n. literal_true ρ terms (turned_by p.negative (literal_of terms n))) (λ n. signed p.negative (v n)) (λ n. n < length terms)
      (λ n b. turned_true ρ terms p.negative (literal_of terms n) ∙ ap (signed p.negative) (literal_true_lem ρ names terms ok n b))
      (stands_for p.part t i ns) (stands_below (length terms) t i ns h (ok t h).before p.part)

  pieces_true : (c : Situation) → Obtains v t ns c → (ps : List Piece) → (list_any (λ (p : Piece). is_picked p.part) ps ≡ true → i < length ns) →
      list_any (λ (p : Piece). sure c p.part p.negative) ps ≡ true → clause_true ρ terms (clause_by terms t i ps) ≡ true
  pieces_true c o [] b e = absurd (false≢true e)
  pieces_true c o (p ∷ ps) b e =
      let a = some_append (literal_true ρ terms) (piece_literals terms t i p) (clause_by terms t i ps) in
      elim (or_cases (sure c p.part p.negative) _ e) [
        | inl y ↦
            a ∙ or_left (list_any (literal_true ρ terms) (piece_literals terms t i p)) _ (piece_true p ∙ sure_is v p.negative i t ns c o p.part (λ z. b (or_left (is_picked p.part) _ z)) y)
        | inr y ↦ a ∙ or_right (list_any (literal_true ρ terms) (piece_literals terms t i p)) _ (pieces_true c o ps (λ z. b (or_right (is_picked p.part) _ z)) y)
      ]

  -- a true premise that has just the literal of a piece makes that true
  premise_true : (p : Piece) (c : List Literal) → same_set c (clause_by terms t i (p ∷ [])) ≡ true → clause_true ρ terms c ≡ true → is_whole p.part ≡ true → signed p.negative (v t) ≡ true
  premise_true p c same true-in w =
      let covered = covers_true ρ terms (clause_by terms t i (p ∷ [])) c (and_parts (list_all (holds_literal c) (clause_by terms t i (p ∷ []))) _ same).1 true-in in
      let one = or_false (list_any (literal_true ρ terms) (piece_literals terms t i p)) (sym (some_append (literal_true ρ terms) (piece_literals terms t i p) []) ∙ covered) in
      whole_only v p.negative t i ns p.part w (sym (piece_true p) ∙ one)

  -- a premise that is true is not refused
  not_refused : (o : Option Piece) (premises : List (List Literal)) (c : Situation) → Obtains v t ns c → takes terms t i o premises ≡ true → list_all (clause_true ρ terms) premises ≡ true → refused o c ≢ true
  not_refused None premises c ob a b e = false≢true e
  not_refused (Some p) [] c ob a b e = false≢true a
  not_refused (Some p) (d ∷ []) c ob a b e =
      let both = and_parts (is_whole p.part) _ e in
      let yes = premise_true p d a (and_parts (clause_true ρ terms d) true b).0 both.0 in
      false≢true (sym (not-true (signed p.negative c.whole) both.1) ∙ ap (signed p.negative) (sym ob.whole_is) ∙ yes)
  not_refused (Some p) (d ∷ f ∷ ds) c ob a b e = false≢true a

  -- whatever situation arises, the clause is true
  in_each : (o : Option Piece) (ps : List Piece) (premises : List (List Literal)) → takes terms t i o premises ≡ true → list_all (clause_true ρ terms) premises ≡ true →
      (list_any (λ (p : Piece). is_picked p.part) ps ≡ true → i < length ns) → (cs : List Situation) → Arises v t ns cs →
      list_all (λ c. refused o c || list_any (λ (p : Piece). sure c p.part p.negative) ps) cs ≡ true → clause_true ρ terms (clause_by terms t i ps) ≡ true
  in_each o ps premises a b l [] w e = absurd w
  in_each o ps premises a b l (c ∷ cs) w e =
      let p = and_parts (refused o c || list_any (λ (p : Piece). sure c p.part p.negative) ps) _ e in
      elim w [
        | inl ob ↦ elim (or_cases (refused o c) _ p.0) [
          | inl y ↦ absurd (not_refused o premises c ob a b y)
          | inr y ↦ pieces_true c ob ps l y
        ]
        | inr u ↦ in_each o ps premises a b l cs u p.1
      ]

pub picked_below : (ps : List Piece) (ns : List ℕ) (i : ℕ) → i < choices ps ns → list_any (λ (p : Piece). is_picked p.part) ps ≡ true → i < length ns
picked_below ps ns i h e = subst (λ n. i < n) (cond-true (list_any (λ (p : Piece). is_picked p.part) ps) (length ns) 1 e) h

meets_law : (names : List Name) (q : Asked) → Proper names q.terms → (r : Rule) → valid r ≡ true → meets q r ≡ true → Entailed names q
meets_law names q ok r good e ρ fits b =
    let w = below_where (length q.terms) (fits_as q r) e in
    let t = w.0 in
    let k = and_parts (connects r.connective q.terms t) _ w.2 in
    let j = below_where (choices r.clause (term_at q.terms t).args) (meets_at q r t) k.1 in
    let p = and_parts (takes q.terms t j.0 r.premise q.premises) _ j.2 in
    let s = and_parts (list_all (holds_literal q.clause) (clause_by q.terms t j.0 r.clause)) _ p.1 in
    covers_true ρ q.terms q.clause (clause_by q.terms t j.0 r.clause) s.0
    (in_each ρ names q.terms ok t w.1 j.0 r.premise r.clause q.premises p.0 b (picked_below r.clause (term_at q.terms t).args j.0 j.1)
    (situations r.connective) (arises ρ names q.terms ok fits t w.1 r.connective k.0) good)

-- ---- the referee
unequal : {X : Type 0} → ◌≡◌ {A = ℕ} 0 1 → X
unequal e = absurd (omega arith)

pub said_yes : (x y : Bool) → cond x Arguments (cond y Yes Unmet) ≡ Yes → (x ≡ false) × (y ≡ true)
said_yes true y e = unequal cc
said_yes false true e = (refl, refl)
said_yes false false e = unequal cc

by_rule : (o : Option Rule) → ((r : Rule) → o ≡ Some r → valid r ≡ true) → (names : List Name) (q : Asked) → Proper names q.terms → judged_by o q ≡ Yes → Entailed names q
by_rule None good names q ok e = unequal cc
by_rule (Some r) good names q ok e =
    meets_law names q ok r (good r refl) (said_yes (nat_lt 0 (length q.args)) (meets q r) e).1

pub connectives_lawful : Lawful connectives
connectives_lawful names q ok posed e = by_rule (rule_named q.rule) (rule_valid q.rule) names q ok e

unknown : (o : Option Rule) (q : Asked) → is_rule o ≡ false → judged_by o q ≡ Unmet
unknown None q e = refl
unknown (Some r) q e = absurd (false≢true (sym e))

pub connectives_modest : Modest connectives
connectives_modest q e = unknown (rule_named q.rule) q e
