-- The literals of a proper list, and where literals and clauses are true.
use Rattle.std.proofs.Common.{◌≡◌, ℕ, zero, suc, ◌<◌, ◌≤◌, Bool, true, false, cond, not, List, ◌++◌, map, length, get_or, sym, refl, ap, ◌∙◌, inl, inr, arith}
use Rattle.std.proofs.lemmas.Bool.{cases_Bool, cond-true, cond-false}
use Rattle.entries.specs.declared.entry.Head.TheVariants as head
use Rattle.entries.specs.declared.entry.Literal.{Literal}
use Rattle.entries.specs.declared.entry.Name.{Name}
use Rattle.entries.specs.declared.entry.Term.{Term}
use Rattle.entries.specs.Clauses.{complement_of}
use Rattle.entries.specs.Equality.{same_kind}
use Rattle.entries.proofs.Alike.{head_of_kind}
use Rattle.meaning.specs.Proper.{term_at, Proper}
use Rattle.meaning.specs.Truth.{positive, literal_of, literal_true, signed}
use Rattle.meaning.specs.Values.{Reading, holds, is_true}
use Rattle.meaning.proofs.Built.{built_kept, built_at}
use Rattle.meaning.proofs.Values.{values_kept, not_args, not_true_of}

-- a literal, or its complement
abbrev pub turned : Bool → Literal → Literal
turned negative l = record { negative = signed negative l.negative; term = l.term }

pub literals_kept : (terms more : List Term) (n : ℕ) → n < length terms → literal_of (terms ++ more) n ≡ literal_of terms n
literals_kept terms more n h =
    built_kept (positive 0) (λ n t ls. cond (same_kind t.head head.Not) (complement_of (get_or ls 0 (positive 0))) (positive n)) terms more n h

module _ (names : List Name) (terms : List Term) (ok : Proper names terms) (n : ℕ) (h : n < length terms) where
  literal_at : literal_of terms n ≡ cond (same_kind (term_at terms n).head head.Not) (complement_of (get_or (map (literal_of terms) (term_at terms n).args) 0 (positive 0))) (positive n)
  literal_at =
      built_at (positive 0) (λ n t ls. cond (same_kind t.head head.Not) (complement_of (get_or ls 0 (positive 0))) (positive n)) terms n h (ok n h).before

  module _ (e : same_kind (term_at terms n).head head.Not ≡ true) where
    pub is_not : (term_at terms n).head ≡ head.Not
    is_not = head_of_kind (term_at terms n).head head.Not e

    -- the literal of a `not` is the complement of its argument's
    pub literal_inner : literal_of terms n ≡ complement_of (literal_of terms (not_args names terms ok n h is_not).0)
    literal_inner =
        literal_at ∙ cond-true _ _ _ e
        ∙ ap (λ ns. complement_of (get_or (map (literal_of terms) ns) 0 (positive 0))) (not_args names terms ok n h is_not).1

  -- any other term is its own
  pub literal_own : same_kind (term_at terms n).head head.Not ≡ false → literal_of terms n ≡ positive n
  literal_own e = literal_at ∙ cond-false _ _ _ e

-- ---- a literal is true exactly where its term is
pub signed_not : (b v : Bool) → signed (not b) v ≡ not (signed b v)
signed_not true true = refl
signed_not true false = refl
signed_not false v = refl

pub complement_true : (ρ : Reading) (terms : List Term) (l : Literal) → literal_true ρ terms (complement_of l) ≡ not (literal_true ρ terms l)
complement_true ρ terms l = signed_not l.negative (is_true ρ terms l.term)

module _ (ρ : Reading) (names : List Name) (terms : List Term) (ok : Proper names terms) where
  below_true : (m n : ℕ) → n < m → n < length terms → literal_true ρ terms (literal_of terms n) ≡ is_true ρ terms n
  below_true zero n b h = absurd (omega arith)
  below_true (suc m) n b h = elim (cases_Bool (same_kind (term_at terms n).head head.Not)) [
    | inl e ↦
        let i = is_not names terms ok n h e in
        let a = not_args names terms ok n h i in
        ap (literal_true ρ terms) (literal_inner names terms ok n h e) ∙ complement_true ρ terms (literal_of terms a.0)
        ∙ ap not (below_true m a.0 (omega (arith, a.2)) (omega (arith, a.2)))
        ∙ sym (not_true_of ρ names terms ok n h i a.0 a.1)
    | inr e ↦ ap (literal_true ρ terms) (literal_own names terms ok n h e)
  ]

  pub literal_true_lem : (n : ℕ) → n < length terms → literal_true ρ terms (literal_of terms n) ≡ is_true ρ terms n
  literal_true_lem n h = below_true (suc n) n (omega arith) h

-- ---- a literal's term stands in the list, and is no `not`
module _ (names : List Name) (terms : List Term) (ok : Proper names terms) where
  below_stripped : (m n : ℕ) → n < m → n < length terms → ((literal_of terms n).term ≤ n) × (same_kind (term_at terms (literal_of terms n).term).head head.Not ≡ false)
  below_stripped zero n b h = absurd (omega arith)
  below_stripped (suc m) n b h = elim (cases_Bool (same_kind (term_at terms n).head head.Not)) [
    | inl e ↦
        let a = not_args names terms ok n h (is_not names terms ok n h e) in
        let k = ap (λ (l : Literal). l.term) (literal_inner names terms ok n h e) in
        let w = below_stripped m a.0 (omega (arith, a.2)) (omega (arith, a.2)) in
        (omega (arith, k, w.0, a.2), ap (λ z. same_kind (term_at terms z).head head.Not) k ∙ w.1)
    | inr e ↦
        let k = ap (λ (l : Literal). l.term) (literal_own names terms ok n h e) in
        (omega (arith, k), ap (λ z. same_kind (term_at terms z).head head.Not) k ∙ e)
  ]

  pub literal_within : (n : ℕ) → n < length terms → (literal_of terms n).term ≤ n
  literal_within n h = (below_stripped (suc n) n (omega arith) h).0

  pub literal_stripped : (n : ℕ) → n < length terms → same_kind (term_at terms (literal_of terms n).term).head head.Not ≡ false
  literal_stripped n h = (below_stripped (suc n) n (omega arith) h).1

-- ---- more terms change no earlier truth
pub literal_true_kept : (ρ : Reading) (terms more : List Term) (l : Literal) → l.term < length terms → literal_true ρ (terms ++ more) l ≡ literal_true ρ terms l
literal_true_kept ρ terms more l h = ap (λ v. signed l.negative (holds v)) (values_kept ρ terms more l.term h)
