-- A search for T where it stands finds each T that there is.
use Rattle.std.proofs.Common.{◌≡◌, ℕ, ◌<◌, Bool, true, false, eqb, List, [], ◌∷◌, map, length, get_or, Some, None, Option, sym, refl, ap, ◌∙◌, subst}
use Rattle.std.specs.List.{All, AllByRecursion, list_any, list_all}
use Rattle.std.proofs.ByRecursion.{All-get_or}
use Rattle.std.proofs.lemmas.Bool.{and_parts, eqb-true, not-true, false≢true}
use Rattle.entries.specs.declared.entry.Head.{Head}
use Rattle.entries.specs.declared.entry.Head.TheVariants as head
use Rattle.entries.specs.declared.entry.Literal.{Literal}
use Rattle.entries.specs.declared.entry.Term.{Term}
use Rattle.entries.specs.Clauses.{holds_literal}
use Rattle.entries.specs.Equality.{kind_of, same_kind}
use Rattle.entries.proofs.Filings.{holds_decides}
use Rattle.meaning.specs.Proper.{Formed, term_at}
use Rattle.meaning.specs.Truth.{positive, literal_of}
use Rattle.meaning.proofs.Clauses.{some_at}
use Rattle.meaning.proofs.Literals.{literal_own}
use Rattle.referee.specs.Questions.{Asked, Posed, Among}
use Rattle.referee.specs.Sets.{same_set}
use Rattle.referee.proofs.Scans.{some_where, every_at}
use Rattle.connectives.specs.declared.table.Connective.{Connective}
use Rattle.connectives.specs.declared.table.Connective.TheVariants as connective
use Rattle.connectives.specs.declared.table.Part.{Part}
use Rattle.connectives.specs.declared.table.Part.TheVariants as part
use Rattle.connectives.specs.declared.table.Piece.{Piece}
use Rattle.connectives.specs.Rules.{stands_for, turned_by, piece_literals, clause_by, begins, connects, choices, takes, meets_at, fits_as, meets}
use Rattle.connectives.specs.Table.{Rule, T}
use Rattle.connectives.specs.Search.{seat_of, is_whole, shows_in, shows}
use Rattle.connectives.specs.Counts.{below_where, below_at}
use Rattle.connectives.specs.Wanted.{wanted_all}

-- ---- T is no `not`
other_kind : (h : Head) (n : ℕ) → eqb (kind_of h) n ≡ true → eqb n 2 ≡ false → eqb (kind_of h) 2 ≡ false
other_kind h n e f = ap (λ z. eqb z 2) (eqb-true (kind_of h) n e) ∙ f

pub begins_no_not : (k : Connective) (h : Head) → begins k h ≡ true → same_kind h head.Not ≡ false
begins_no_not connective.Any h e = not-true (same_kind h head.Not) e
begins_no_not connective.True h e = other_kind h 0 e refl
begins_no_not connective.False h e = other_kind h 1 e refl
begins_no_not connective.And h e = other_kind h 3 e refl
begins_no_not connective.Or h e = other_kind h 4 e refl
begins_no_not connective.Implies h e = other_kind h 5 e refl
begins_no_not connective.Equiv h e = other_kind h 6 e refl

-- ---- the literal of T is one of those that show it
whole_piece : (terms : List Term) (t i : ℕ) (args : List ℕ) (clause : List Literal) (s : Bool) (k : Part) → is_whole k ≡ true →
    list_all (holds_literal clause) (map (λ n. turned_by s (literal_of terms n)) (stands_for k t i args)) ≡ true → holds_literal clause (turned_by s (literal_of terms t)) ≡ true
whole_piece terms t i args clause s part.Whole w e = (and_parts (holds_literal clause (turned_by s (literal_of terms t))) true e).0
whole_piece terms t i args clause s part.Picked w e = absurd (false≢true w)
whole_piece terms t i args clause s part.All w e = absurd (false≢true w)
whole_piece terms t i args clause s part.First w e = absurd (false≢true w)
whole_piece terms t i args clause s part.Second w e = absurd (false≢true w)

module _ (terms : List Term) (t i : ℕ) where
  whole_in : (ps : List Piece) → list_any (λ (p : Piece). is_whole p.part) ps ≡ true → (clause : List Literal) → list_all (holds_literal clause) (clause_by terms t i ps) ≡ true →
      (s : Bool) × (holds_literal clause (turned_by s (literal_of terms t)) ≡ true)
  whole_in ps w clause e =
      let x = some_where (λ (p : Piece). is_whole p.part) ps T w in
      let p = get_or ps x.0 T in
      let q = every_at (λ p. list_all (holds_literal clause) (piece_literals terms t i p)) ps x.0 T x.1 (sym (wanted_all terms t i ps clause) ∙ e) in
      (p.negative, whole_piece terms t i (term_at terms t).args clause p.negative p.part x.2 q)

  or_false : (b : Bool) → b ≡ true → list_any (λ (z : Bool). z) (b ∷ []) ≡ true
  or_false true e = refl
  or_false false e = e

  seat_whole : (o : Option Piece) (ps : List Piece) (clause : List Literal) (premises : List (List Literal)) → shows_in o ps ≡ true → takes terms t i o premises ≡ true →
      same_set clause (clause_by terms t i ps) ≡ true → (s : Bool) × (holds_literal (seat_of clause premises) (turned_by s (literal_of terms t)) ≡ true)
  seat_whole None ps clause [] w k e = whole_in ps w clause (and_parts (list_all (holds_literal clause) (clause_by terms t i ps)) _ e).0
  seat_whole None ps clause (c ∷ cs) w k e = absurd (false≢true k)
  seat_whole (Some p) ps clause [] w k e = absurd (false≢true k)
  seat_whole (Some p) ps clause (c ∷ []) w k e =
      whole_in (p ∷ []) (or_false (is_whole p.part) w) c (and_parts (list_all (holds_literal c) (clause_by terms t i (p ∷ []))) _ k).0
  seat_whole (Some p) ps clause (c ∷ d ∷ cs) w k e = absurd (false≢true k)

turned_term : (s : Bool) (l : Literal) → (turned_by s l).term ≡ l.term
turned_term true l = refl
turned_term false l = refl

bool_same : (x y : Bool) → (x ≡ true → y ≡ true) → (y ≡ true → x ≡ true) → x ≡ y
bool_same true true f g = refl
bool_same true false f g = absurd (false≢true (f refl))
bool_same false true f g = absurd (false≢true (g refl))
bool_same false false f g = refl

module _ (q : Asked) (r : Rule) where
  abbrev fitting : Literal → Bool
  fitting l = fits_as q r l.term

  abbrev looked_at : List Literal
  looked_at = seat_of q.clause q.premises

  -- a term that fits is found by a literal of it
  found_by : (t : ℕ) (l : Literal) → l.term ≡ t → holds_literal looked_at l ≡ true → fits_as q r t ≡ true → list_any fitting looked_at ≡ true
  found_by t l same h e =
      let x = (holds_decides looked_at l).0 h in
      some_at fitting looked_at x.0 l x.1 (ap fitting (x.2 l) ∙ ap (fits_as q r) same ∙ e)

  seat_from : Formed q.terms → shows r ≡ true → (t : ℕ) → t < length q.terms → fits_as q r t ≡ true → list_any fitting looked_at ≡ true
  seat_from formed w t h e =
      let c = and_parts (connects r.connective q.terms t) _ e in
      let k = and_parts (begins r.connective (term_at q.terms t).head) _ c.0 in
      let j = below_where (choices r.clause (term_at q.terms t).args) (meets_at q r t) c.1 in
      let m = and_parts (takes q.terms t j.0 r.premise q.premises) _ j.2 in
      let u = seat_whole q.terms t j.0 r.premise r.clause q.clause q.premises w m.0 m.1 in
      let own = literal_own formed.0 q.terms formed.1 t h (begins_no_not r.connective (term_at q.terms t).head k.0) in
      found_by t (turned_by u.0 (literal_of q.terms t)) (turned_term u.0 (literal_of q.terms t) ∙ ap (λ (z : Literal). z.term) own) u.1 e

  seat_to : AllByRecursion (Among q.terms) looked_at → list_any fitting looked_at ≡ true → meets q r ≡ true
  seat_to within e =
      let x = some_where fitting looked_at (positive 0) e in
      let l = get_or looked_at x.0 (positive 0) in
      below_at (length q.terms) (fits_as q r) l.term (All-get_or (Among q.terms) looked_at x.0 (positive 0) x.1 within) x.2

  -- the literals of a question are among its terms
  seat_among : Posed q → AllByRecursion (Among q.terms) looked_at
  seat_among posed = go q.premises posed.premises
    where
      go : (premises : List (List Literal)) → AllByRecursion (AllByRecursion (Among q.terms)) premises → AllByRecursion (Among q.terms) (seat_of q.clause premises)
      go [] w = posed.clause
      go (c ∷ cs) w = w.0

  module _ (posed : Posed q) (ls : List Literal) (is : ls ≡ looked_at) where
    pub seat_met : shows r ≡ true → list_any fitting ls ≡ meets q r
    seat_met w =
        ap (list_any fitting) is
        ∙ bool_same (list_any fitting looked_at) (meets q r) (seat_to (seat_among posed))
        (λ e. let j = below_where (length q.terms) (fits_as q r) e in seat_from posed.formed w j.0 j.1 j.2)

    pub seat_within : All (λ (l : Literal). l.term < length q.terms) ls
    seat_within i d h = All-get_or (Among q.terms) ls i d h (subst (AllByRecursion (Among q.terms)) (sym is) (seat_among posed))
