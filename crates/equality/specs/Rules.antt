-- The rules of equality, as tests.
use Rattle.entries.specs.declared.entry.Term.{Term}
use Rattle.std.specs.Prelude.{ℕ, ◌-◌, Bool, true, false, cond, ◌&&◌, ◌||◌, List, [], ◌∷◌, map, length, take, is_some, None, Option, ◌==◌, nat_eq, nat_lt, slice_index_or}
use Rattle.std.specs.List.{list_any, list_all, zip}
use Rattle.entries.specs.declared.entry.Literal.{Literal}
use Rattle.meaning.specs.Proper.{term_at}
use Rattle.meaning.specs.Truth.{positive}
use Rattle.equality.specs.declared.sides.Sides.{Sides}
use Rattle.equality.specs.Heads.{one_name, one_operation}
use Rattle.equality.specs.Sides.{equated, lone, such, is_sides}

-- ---- eq_reflexive, refl

-- The clause, as a set, is t = t.
abbrev pub reflexive : List Term → List Literal → Bool
reflexive terms c = such (lone terms c) (λ e. nat_eq e.left e.right)

-- ---- the last literal, and those before it

-- All literals but the last.
abbrev pub front : List Literal → List Literal
front c = take (length c - 1) c

-- The sides of the last literal, if it is a positive equality.
abbrev pub last_sides : List Term → List Literal → Option Sides
last_sides terms c = cond (nat_lt 0 (length c)) (equated terms false (slice_index_or c (length c - 1) (positive 0))) None

-- ---- eq_transitive

-- The literals, in their order, are negated equalities that lead from the term s to the term t.
abbrev pub leads : List Term → ℕ → List Literal → ℕ → Bool
leads terms s [] t = s == t
leads terms s (l ∷ ls) t = such (equated terms true l) (λ e. (e.left == s) && leads terms e.right ls t)

-- One negated equality or more lead from one side of the last literal to the other.
abbrev pub transitive : List Term → List Literal → Bool
transitive terms c = such (last_sides terms c) (λ e. nat_lt 0 (length (front c)) && leads terms e.left (front c) e.right)

-- ---- eq_congruent

-- A pair of numbers as sides.
abbrev pub sides_of_pair : ℕ × ℕ → Sides
sides_of_pair p = record { left = p.0; right = p.1 }

-- The arguments at each place of two lists, as long as both go on.
abbrev pub pairs : List ℕ → List ℕ → List Sides
pairs ss ts = map sides_of_pair (zip ss ts)

-- The literal is the negated equality of the pair.
abbrev pub negates : List Term → Sides → Literal → Bool
negates terms p l = is_sides (equated terms true l) p

-- The pair is one term, or its negated equality is in the clause.
abbrev pub settled : List Term → List Literal → Sides → Bool
settled terms c p = p.left == p.right || list_any (negates terms p) c

-- The sides are two terms with one declared name and as many arguments; each pair of these is settled, and the literals before the last
-- are pairs' negated equalities.
abbrev pub congruent_at : List Term → List Literal → List Literal → Sides → Bool
congruent_at terms c before e =
    let t = term_at terms e.left in
    let u = term_at terms e.right in
    one_name t.head u.head && (length t.args == length u.args
    && (list_all (settled terms c) (pairs t.args u.args) && list_all (λ l. list_any (λ p. negates terms p l) (pairs t.args u.args)) before))

-- The last literal equates two such terms.
abbrev pub congruent : List Term → List Literal → Bool
congruent terms c = such (last_sides terms c) (congruent_at terms c (front c))

-- ---- trans

-- The two clauses, as sets, are r = s and s = t, where e is r = t.
abbrev pub through : List Term → List Literal → List Literal → Sides → Bool
through terms p q e = such (lone terms p) (λ d. (d.left == e.left) && is_sides (lone terms q) (record { left = d.right; right = e.right }))

-- Two premises, and they lead from one side to the other.
abbrev pub joins : List Term → List (List Literal) → Sides → Bool
joins terms [] e = false
joins terms (p ∷ []) e = false
joins terms (p ∷ q ∷ []) e = through terms p q e
joins terms (p ∷ q ∷ r ∷ ps) e = false

-- The clause, as a set, is an equality that the premises join.
abbrev pub joined : List Term → List Literal → List (List Literal) → Bool
joined terms c premises = such (lone terms c) (joins terms premises)

-- ---- cong

-- The pair is one term, or a premise's equality.
abbrev pub granted : List Term → List (List Literal) → Sides → Bool
granted terms premises p = p.left == p.right || list_any (λ c. is_sides (lone terms c) p) premises

-- Each pair is granted, and each premise, as a set, is one equality.
abbrev pub applied_by : List Term → List (List Literal) → List Sides → Bool
applied_by terms premises ps = list_all (granted terms premises) ps && list_all (λ c. is_some (lone terms c)) premises

-- The clause, as a set, is an equality of two terms with one declared name or operator and as many arguments, whose pairs the premises grant.
abbrev pub applied : List Term → List Literal → List (List Literal) → Bool
applied terms c premises = such (lone terms c) (λ e.
    let t = term_at terms e.left in
    let u = term_at terms e.right in
    one_operation t.head u.head && (length t.args == length u.args && applied_by terms premises (pairs t.args u.args)))
