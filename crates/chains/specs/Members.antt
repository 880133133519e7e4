-- Complements, and the literals that stand in a clause.
use Rattle.std.specs.Prelude.{◌≡◌, Bool, true, false, not, ◌⊎◌, List, [], ◌∷◌, map, ◌≢◌, refl}
use Rattle.std.proofs.Common.{inl, inr, sym, ap, subst, ◌∙◌, arith}
use Rattle.std.specs.List.{ContainsAt as Has}
use Rattle.std.proofs.lemmas.Bool.{cases_Bool, both_ways, false≢true, true≢false}
use Rattle.entries.specs.declared.entry.Literal.{Literal}
use Rattle.entries.specs.Clauses.{complement_of, holds_literal}
use Rattle.entries.specs.Equality.{same_literal}
use Rattle.entries.proofs.Alike.{same_literal_decides}
use Rattle.entries.proofs.Filings.{holds_decides}
use Rattle.referee.proofs.Members.{has_first, has_on, has_cases}

-- ---- complements
not_not : (b : Bool) → not (not b) ≡ b
not_not true = refl
not_not false = refl

not_own : (b : Bool) → not b ≢ b
not_own true e = false≢true e
not_own false e = true≢false e

pub complement_twice : (l : Literal) → complement_of (complement_of l) ≡ l
complement_twice l = λ i. record { negative = not_not l.negative i; term = l.term }

pub complement_own : (l : Literal) → complement_of l ≢ l
complement_own l e = not_own l.negative (ap (λ (x : Literal). x.negative) e)

-- where one is the complement of the other, so the other way round
pub complement_turn : (a b : Literal) → complement_of a ≡ b → a ≡ complement_of b
complement_turn a b e = sym (complement_twice a) ∙ ap complement_of e

pub same_or_not : (a b : Literal) → (a ≡ b) ⊎ (a ≢ b)
same_or_not a b = elim (cases_Bool (same_literal a b)) [
  | inl t ↦ inl ((same_literal_decides a b).0 t)
  | inr f ↦ inr (λ e. both_ways (same_literal a b) f ((same_literal_decides a b).1 e))
]

-- ---- lists of literals
pub has_complements : (c : List Literal) (l : Literal) → Has c (complement_of l) → Has (map complement_of c) l
has_complements [] l h = absurd (omega (arith, h.1))
has_complements (m ∷ c) l h = elim (has_cases m c (complement_of l) h) [
  | inl e ↦ subst (Has (complement_of m ∷ map complement_of c)) (ap complement_of e ∙ complement_twice l) (has_first (complement_of m) (map complement_of c))
  | inr k ↦ has_on (complement_of m) (map complement_of c) l (has_complements c l k)
]

pub complements_has : (c : List Literal) (l : Literal) → Has (map complement_of c) l → Has c (complement_of l)
complements_has [] l h = absurd (omega (arith, h.1))
complements_has (m ∷ c) l h = elim (has_cases (complement_of m) (map complement_of c) l h) [
  | inl e ↦ subst (Has (m ∷ c)) (complement_turn m l e) (has_first m c)
  | inr k ↦ has_on m c (complement_of l) (complements_has c l k)
]

pub holds_has : (c : List Literal) (l : Literal) → holds_literal c l ≡ true → Has c l
holds_has c l e = (holds_decides c l).0 e

pub has_holds : (c : List Literal) (l : Literal) → Has c l → holds_literal c l ≡ true
has_holds c l h = (holds_decides c l).1 h
