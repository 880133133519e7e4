-- The tests and the words agree.
use Rattle.std.proofs.Common.{◌≡◌, ℕ, zero, suc, ◌<◌, Bool, true, false, cond, not, ◌&&◌, ltb, List, [], ◌∷◌, ◌++◌, map, length, get_or, Some, None, Option, sym, refl, ap, ◌∙◌, subst, inl, inr, arith}
use Rattle.std.specs.List.{ContainsAt as Has, AllByRecursion, list_any, list_all}
use Rattle.std.specs.Str.{bytes_eq}
use Rattle.std.proofs.ByRecursion.{all-has, all_has_itself, All-weaker, has_get_or}
use Rattle.std.proofs.lemmas.Slice.Eq.{bytes_eq-Decides}
use Rattle.std.proofs.lemmas.List.{nil_from_length}
use Rattle.std.proofs.lemmas.Bool.{cases_Bool, cond-true, cond-false, and_parts, and_from, or_parts, or_from, not-true, not_from_false, ltb-true, ltb-false, false≢true}
use Rattle.entries.specs.declared.entry.Head.{Head}
use Rattle.entries.specs.declared.entry.Head.TheVariants as head
use Rattle.entries.specs.declared.entry.Literal.{Literal}
use Rattle.entries.specs.declared.entry.Sort.TheVariants as sort
use Rattle.entries.specs.declared.entry.Term.{Term}
use Rattle.entries.specs.Clauses.{holds_literal}
use Rattle.entries.specs.Equality.{same_kind, same_sort}
use Rattle.entries.proofs.Alike.{head_of_kind, kind_of_head, same_sort_decides}
use Rattle.entries.proofs.Filings.{holds_decides}
use Rattle.meaning.specs.Proper.{term_at, sort_at}
use Rattle.meaning.specs.Truth.{literal_of}
use Rattle.meaning.proofs.Clauses.{some_at}
use Rattle.referee.specs.declared.ruling.Ruling.TheVariants.{Yes, Unmet, Arguments, Overflow}
use Rattle.referee.specs.Questions.{Asked}
use Rattle.referee.specs.Sets.{same_set}
use Rattle.referee.proofs.Scans.{every_all, every_at, some_where}
use Rattle.connectives.specs.declared.table.Connective.{Connective}
use Rattle.connectives.specs.declared.table.Connective.TheVariants as connective
use Rattle.connectives.specs.declared.table.Part.{Part}
use Rattle.connectives.specs.declared.table.Part.TheVariants as part
use Rattle.connectives.specs.declared.table.Piece.{Piece}
use Rattle.connectives.specs.Rules.{stands_for, turned_by, piece_literals, clause_by, connects, is_picked, choices, takes, meets_at, fits_as, meets, judged_by}
use Rattle.connectives.specs.Search.{is_whole, shows_in, shows}
use Rattle.connectives.specs.Table.{Rule, T, table, named, rule_named}
use Rattle.connectives.specs.Words.{Connects, SameLiterals, Takes, Picks, Meets, IsRule, Known, Keeps, Deserves, Exact, Single}
use Rattle.connectives.specs.Counts.{below_where, below_at}
use Rattle.connectives.specs.Valid.{picked_below, rule_shows}

-- ---- lists
every_from : {X : Type 0} (f : X → Bool) (xs : List X) → AllByRecursion (λ x. f x ≡ true) xs → list_all f xs ≡ true
every_from f [] w = refl
every_from f (x ∷ xs) w = and_from (f x) (list_all f xs) w.0 (every_from f xs w.1)

-- ---- sets
module _ (c d : List Literal) where
  held_from : list_all (holds_literal c) d ≡ true → (l : Literal) → Has d l → Has c l
  held_from e l h = (holds_decides c l).0 (all-has (λ x. holds_literal c x ≡ true) d l (every_all (holds_literal c) d e) h)

  held_to : ((l : Literal) → Has d l → Has c l) → list_all (holds_literal c) d ≡ true
  held_to f = every_from (holds_literal c) d (All-weaker (Has d) (λ l. holds_literal c l ≡ true) (λ l h. (holds_decides c l).1 (f l h)) d (all_has_itself d))

set_from : (c d : List Literal) → same_set c d ≡ true → SameLiterals c d
set_from c d e = let p = and_parts (list_all (holds_literal c) d) _ e in record { there = held_from d c p.1; back = held_from c d p.0 }

set_to : (c d : List Literal) → SameLiterals c d → same_set c d ≡ true
set_to c d s = and_from (list_all (holds_literal c) d) _ (held_to c d s.back) (held_to d c s.there)

-- ---- T
with_true : (b : Bool) → b ≡ true → (b && true) ≡ true
with_true b e = and_from b true e refl

module _ (terms : List Term) (t : ℕ) where
  abbrev its_head : Head
  its_head = (term_at terms t).head

  of_kind : (k : Head) → (same_kind its_head k && true) ≡ true → same_kind its_head k ≡ true
  of_kind k e = (and_parts (same_kind its_head k) true e).0

  connects_from : (k : Connective) → connects k terms t ≡ true → Connects k terms t
  connects_from connective.Any e =
      λ is. false≢true (sym (not-true (same_kind its_head head.Not) (and_parts (not (same_kind its_head head.Not)) true e).0) ∙ kind_of_head its_head head.Not is)
  connects_from connective.True e = head_of_kind its_head head.True (of_kind head.True e)
  connects_from connective.False e = head_of_kind its_head head.False (of_kind head.False e)
  connects_from connective.And e = head_of_kind its_head head.And (of_kind head.And e)
  connects_from connective.Or e = head_of_kind its_head head.Or (of_kind head.Or e)
  connects_from connective.Implies e = head_of_kind its_head head.Implies (of_kind head.Implies e)
  connects_from connective.Equiv e =
      let p = and_parts (same_kind its_head head.Equal) _ e in (
        head_of_kind its_head head.Equal p.0,
        All-weaker (λ n. same_sort (sort_at terms n) sort.Bool ≡ true) (λ n. sort_at terms n ≡ sort.Bool) (λ n b. (same_sort_decides (sort_at terms n) sort.Bool).0 b) (term_at terms t).args
            (every_all (λ n. same_sort (sort_at terms n) sort.Bool) (term_at terms t).args p.1),
      )

  no_not : (its_head ≡ head.Not → ⊥) → not (same_kind its_head head.Not) ≡ true
  no_not f = elim (cases_Bool (same_kind its_head head.Not)) [
    | inl e ↦ absurd (f (head_of_kind its_head head.Not e))
    | inr e ↦ not_from_false (same_kind its_head head.Not) e
  ]

  connects_to : (k : Connective) → Connects k terms t → connects k terms t ≡ true
  connects_to connective.Any f = with_true (not (same_kind its_head head.Not)) (no_not f)
  connects_to connective.True e = with_true (same_kind its_head head.True) (kind_of_head its_head head.True e)
  connects_to connective.False e = with_true (same_kind its_head head.False) (kind_of_head its_head head.False e)
  connects_to connective.And e = with_true (same_kind its_head head.And) (kind_of_head its_head head.And e)
  connects_to connective.Or e = with_true (same_kind its_head head.Or) (kind_of_head its_head head.Or e)
  connects_to connective.Implies e = with_true (same_kind its_head head.Implies) (kind_of_head its_head head.Implies e)
  connects_to connective.Equiv e =
      and_from (same_kind its_head head.Equal) _ (kind_of_head its_head head.Equal e.0)
      (every_from (λ n. same_sort (sort_at terms n) sort.Bool) (term_at terms t).args
      (All-weaker (λ n. sort_at terms n ≡ sort.Bool) (λ n. same_sort (sort_at terms n) sort.Bool ≡ true) (λ n b. (same_sort_decides (sort_at terms n) sort.Bool).1 b) (term_at terms t).args e.1))

  -- ---- premises
  module _ (i : ℕ) where
    takes_from : (o : Option Piece) (premises : List (List Literal)) → takes terms t i o premises ≡ true → Takes terms t i o premises
    takes_from None [] e = refl
    takes_from None (c ∷ cs) e = absurd (false≢true e)
    takes_from (Some p) [] e = absurd (false≢true e)
    takes_from (Some p) (c ∷ []) e = (c, refl, set_from c (clause_by terms t i (p ∷ [])) e)
    takes_from (Some p) (c ∷ d ∷ cs) e = absurd (false≢true e)

    takes_to : (o : Option Piece) (premises : List (List Literal)) → Takes terms t i o premises → takes terms t i o premises ≡ true
    takes_to None premises e = ap (takes terms t i None) e
    takes_to (Some p) premises e = ap (takes terms t i (Some p)) e.1 ∙ set_to e.0 (clause_by terms t i (p ∷ [])) e.2

-- ---- φᵢ
picked_part : (k : Part) → is_picked k ≡ true → k ≡ part.Picked
picked_part part.Whole e = absurd (false≢true e)
picked_part part.Picked e = refl
picked_part part.All e = absurd (false≢true e)
picked_part part.First e = absurd (false≢true e)
picked_part part.Second e = absurd (false≢true e)

abbrev picking : List Piece → Bool
picking ps = list_any (λ (p : Piece). is_picked p.part) ps

picks_to : (ps : List Piece) → Picks ps → picking ps ≡ true
picks_to ps w =
    some_at (λ (p : Piece). is_picked p.part) ps w.1.0 w.0 w.1.1 (ap (λ (p : Piece). is_picked p.part) (w.1.2 w.0) ∙ ap is_picked w.2)

picks_from : (ps : List Piece) → picking ps ≡ true → Picks ps
picks_from ps e =
    let w = some_where (λ (p : Piece). is_picked p.part) ps T e in
    (get_or ps w.0 T, has_get_or ps w.0 T w.1, picked_part (get_or ps w.0 T).part w.2)

-- without φᵢ it does not matter which i it is
module _ (terms : List Term) (t i : ℕ) where
  stands_any : (k : Part) → is_picked k ≡ false → (args : List ℕ) → stands_for k t i args ≡ stands_for k t 0 args
  stands_any part.Whole e args = refl
  stands_any part.Picked e args = absurd (false≢true (sym e))
  stands_any part.All e args = refl
  stands_any part.First e args = refl
  stands_any part.Second e args = refl

  clause_any : (ps : List Piece) → picking ps ≡ false → clause_by terms t i ps ≡ clause_by terms t 0 ps
  clause_any [] e = refl
  clause_any (p ∷ ps) e =
      let both = or_parts (is_picked p.part) (picking ps) e in
      ap (λ ns. map (λ n. turned_by p.negative (literal_of terms n)) ns ++ clause_by terms t i ps) (stands_any p.part both.0 (term_at terms t).args)
      ∙ ap (λ ls. piece_literals terms t 0 p ++ ls) (clause_any ps both.1)

  whole_unpicked : (k : Part) → is_whole k ≡ true → is_picked k ≡ false
  whole_unpicked part.Whole e = refl
  whole_unpicked part.Picked e = absurd (false≢true e)
  whole_unpicked part.All e = refl
  whole_unpicked part.First e = refl
  whole_unpicked part.Second e = refl

  takes_any : (o : Option Piece) (ps : List Piece) → shows_in o ps ≡ true → (premises : List (List Literal)) → takes terms t i o premises ≡ takes terms t 0 o premises
  takes_any None ps w [] = refl
  takes_any None ps w (c ∷ cs) = refl
  takes_any (Some p) ps w [] = refl
  takes_any (Some p) ps w (c ∷ []) = ap (same_set c) (clause_any (p ∷ []) (or_from (is_picked p.part) false (whole_unpicked p.part w) refl))
  takes_any (Some p) ps w (c ∷ d ∷ cs) = refl

-- ---- a step meets a rule
module _ (q : Asked) (r : Rule) where
  meets_from : meets q r ≡ true → (t i : ℕ) × Meets q r t i
  meets_from e =
      let w = below_where (length q.terms) (fits_as q r) e in
      let t = w.0 in
      let k = and_parts (connects r.connective q.terms t) _ w.2 in
      let j = below_where (choices r.clause (term_at q.terms t).args) (meets_at q r t) k.1 in
      let s = and_parts (takes q.terms t j.0 r.premise q.premises) _ j.2 in (
        t,
        j.0,
        record {
          stands = w.1;
          connects = connects_from q.terms t r.connective k.0;
          picked = λ p. picked_below r.clause (term_at q.terms t).args j.0 j.1 (picks_to r.clause p);
          premises = takes_from q.terms t j.0 r.premise q.premises s.0;
          clause = set_from q.clause (clause_by q.terms t j.0 r.clause) s.1;
        },
      )

  -- the i of the tests: the same where there is φᵢ, 0 elsewhere
  fits_at : (t i : ℕ) → t < length q.terms → connects r.connective q.terms t ≡ true → i < choices r.clause (term_at q.terms t).args →
      takes q.terms t i r.premise q.premises ≡ true → same_set q.clause (clause_by q.terms t i r.clause) ≡ true → meets q r ≡ true
  fits_at t i h k l a b =
      below_at (length q.terms) (fits_as q r) t h
      (and_from (connects r.connective q.terms t) _ k
      (below_at (choices r.clause (term_at q.terms t).args) (meets_at q r t) i l
      (and_from (takes q.terms t i r.premise q.premises) _ a b)))

  meets_to : shows r ≡ true → (t i : ℕ) → Meets q r t i → meets q r ≡ true
  meets_to shown t i m =
      let k = connects_to q.terms t r.connective m.connects in
      let a = takes_to q.terms t i r.premise q.premises m.premises in
      let b = set_to q.clause (clause_by q.terms t i r.clause) m.clause in
      let args = (term_at q.terms t).args in
      elim (cases_Bool (picking r.clause)) [
        | inl e ↦ fits_at t i m.stands k (subst (λ n. i < n) (sym (cond-true (picking r.clause) (length args) 1 e)) (m.picked (picks_from r.clause e))) a b
        | inr e ↦
            fits_at t 0 m.stands k (subst (λ n. 0 < n) (sym (cond-false (picking r.clause) (length args) 1 e)) (omega arith))
            (sym (takes_any q.terms t i r.premise r.clause shown q.premises) ∙ a)
            (ap (same_set q.clause) (sym (clause_any q.terms t i r.clause e)) ∙ b)
      ]

-- ---- a name has one row
unequal : {X : Type 0} → ◌≡◌ {A = ℕ} 0 1 → X
unequal e = absurd (omega arith)

abbrev distinct : List Rule → Bool
distinct [] = true
distinct (r ∷ rs) = list_all (λ (s : Rule). not (bytes_eq s.name r.name)) rs && distinct rs

table_distinct : distinct table ≡ true
unfolding table
table_distinct = refl

named_from : (rows : List Rule) (name : List ℕ) (r : Rule) → named rows name ≡ Some r → Has rows r × (r.name ≡ name)
named_from [] name r e = unequal (cc)
named_from (x ∷ xs) name r e = elim (cases_Bool (bytes_eq name x.name)) [
  | inl y ↦
      let same : ◌≡◌ {A = Option Rule} (Some x) (Some r) = sym (cond-true _ _ _ y) ∙ e in
      let z : x ≡ r = cc in
      ((0, omega arith, λ d. z), ap (λ (s : Rule). s.name) (sym z) ∙ sym ((bytes_eq-Decides name x.name).0 y))
  | inr y ↦
      let w = named_from xs name r (sym (cond-false _ _ _ y) ∙ e) in
      ((suc w.0.0, omega (arith, w.0.1), λ d. w.0.2 d), w.1)
]

named_to : (rows : List Rule) → distinct rows ≡ true → (r : Rule) (k : ℕ) → k < length rows → get_or rows k r ≡ r → named rows r.name ≡ Some r
named_to [] u r k h e = absurd (omega arith)
named_to (x ∷ xs) u r zero h e = cond-true _ _ _ ((bytes_eq-Decides r.name x.name).1 (ap (λ (s : Rule). s.name) (sym e))) ∙ ap Some e
named_to (x ∷ xs) u r (suc k) h e =
    let p = and_parts (list_all (λ (s : Rule). not (bytes_eq s.name x.name)) xs) (distinct xs) u in
    let other = every_at (λ (s : Rule). not (bytes_eq s.name x.name)) xs k r (omega arith) p.0 in
    let apart : bytes_eq r.name x.name ≡ false = ap (λ (s : Rule). bytes_eq s.name x.name) (sym e) ∙ not-true (bytes_eq (get_or xs k r).name x.name) other in
    cond-false _ _ _ apart ∙ named_to xs p.1 r k (omega arith) e

module _ (q : Asked) (r : Rule) where
  rule_from : rule_named q.rule ≡ Some r → IsRule q r
  rule_from e = let w = named_from table q.rule r e in record { row = w.0; name = w.1 }

  rule_to : IsRule q r → rule_named q.rule ≡ Some r
  rule_to is = ap (named table) (sym is.name) ∙ named_to table table_distinct r is.row.0 is.row.1 (is.row.2 r)

-- ---- each ruling
unknown_none : (q : Asked) → rule_named q.rule ≡ None → Known q → ⊥
unknown_none q e k =
    let z : ◌≡◌ {A = Option Rule} None (Some k.0) = sym e ∙ rule_to q k.0 k.1 in
    unequal (cc)

-- a step that keeps the rule that it names meets the row that was found
kept_met : (q : Asked) (r : Rule) → rule_named q.rule ≡ Some r → Keeps q → meets q r ≡ true
kept_met q r e k =
    let found = k.1 in
    let z : ◌≡◌ {A = Option Rule} (Some found.0) (Some r) = sym (rule_to q found.0 found.1) ∙ e in
    let same : found.0 ≡ r = cc in
    ap (λ s. meets q s) (sym same) ∙ meets_to q found.0 (rule_shows q.rule found.0 (rule_to q found.0 found.1)) found.2.0 found.2.1 found.2.2

by_rule : (q : Asked) (r : Rule) → rule_named q.rule ≡ Some r → (x y : Bool) → ltb 0 (length q.args) ≡ x → meets q r ≡ y →
    Deserves q (cond x Arguments (cond y Yes Unmet))
by_rule q r e true y a b = ((r, rule_from q r e), ltb-true 0 (length q.args) a)
by_rule q r e false true a b = (nil_from_length q.args (omega (arith, ltb-false 0 (length q.args) a)), (r, rule_from q r e, meets_from q r b))
by_rule q r e false false a b = (
  (λ k. false≢true (sym b ∙ kept_met q r e k)),
  (λ k. nil_from_length q.args (omega (arith, ltb-false 0 (length q.args) a))),
)

by_name : (q : Asked) (o : Option Rule) → rule_named q.rule ≡ o → Deserves q (judged_by o q)
by_name q None e = ((λ k. unknown_none q e (k.1.0, k.1.1)), (λ k. absurd (unknown_none q e k)))
by_name q (Some r) e = by_rule q r e (ltb 0 (length q.args)) (meets q r) refl refl

pub exact : Exact
exact q = by_name q (rule_named q.rule) refl

-- ---- no step deserves two
no_arguments : (q : Asked) → q.args ≡ [] → 0 < length q.args → ⊥
no_arguments q e h = let z = ap length e in omega arith

pub single : Single
single q Yes Yes a b = refl
single q Yes Unmet a b = absurd (b.0 a)
single q Yes Arguments a b = absurd (no_arguments q a.0 b.1)
single q Yes Overflow a b = absurd b
single q Unmet Yes a b = absurd (a.0 b)
single q Unmet Unmet a b = refl
single q Unmet Arguments a b = absurd (no_arguments q (a.1 b.0) b.1)
single q Unmet Overflow a b = absurd b
single q Arguments Yes a b = absurd (no_arguments q b.0 a.1)
single q Arguments Unmet a b = absurd (no_arguments q (b.1 a.0) a.1)
single q Arguments Arguments a b = refl
single q Arguments Overflow a b = absurd b
single q Overflow y a b = absurd a
