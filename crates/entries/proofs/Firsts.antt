-- The first place at which something holds, by a test.
use Rattle.std.proofs.Common.{◌≡◌, ℕ, zero, suc, ◌+◌, ◌<◌, Bool, List, [], ◌∷◌, length, Some, None, Decides, Option, position, sym, refl, ap, ◌∙◌, inl, inr, arith}
use Rattle.std.specs.List.{HoldsAt}
use Rattle.std.proofs.lemmas.Bool.{cases_Bool, cond-true, cond-false}
use Rattle.std.specs.List.{position_from}
use Rattle.std.proofs.lemmas.Iterator.Adapters.{position_from-zero}
use Rattle.entries.specs.First.{Nowhere, First}

module _ {X : Type 0} (P : X → Type 0) (p : X → Bool) (decides : (x : X) → Decides (p x) (P x)) where
  nothing : (xs : List X) (at : ℕ) → Nowhere P xs (length xs) → position_from p at xs ≡ None
  nothing [] at h = refl
  nothing (x ∷ xs) at h = elim (cases_Bool (p x)) [
    | inl e ↦ absurd (h 0 x (omega arith) (omega arith) ((decides x).0 e))
    | inr e ↦ cond-false (p x) _ _ e ∙ nothing xs (at + 1) (λ k d z lt. h (suc k) d (omega arith) (omega arith))
  ]

  something : (xs : List X) (at i : ℕ) → i < length xs → HoldsAt P xs i → Nowhere P xs i → position_from p at xs ≡ Some (at + i)
  something [] at i lt here before = absurd (omega arith)
  something (x ∷ xs) at zero lt here before =
      let e : at ≡ at + 0 = omega arith in
      cond-true (p x) _ _ ((decides x).1 (here x)) ∙ ap Some e
  something (x ∷ xs) at (suc i) lt here before = elim (cases_Bool (p x)) [
    | inl e ↦ absurd (before 0 x (omega arith) (omega arith) ((decides x).0 e))
    | inr e ↦
        let s : at + 1 + i ≡ at + suc i = omega arith in
        cond-false (p x) _ _ e ∙ something xs (at + 1) i (omega arith) here (λ k d z l. before (suc k) d (omega arith) (omega arith)) ∙ ap Some s
  ]

  -- what a search answers is the first place by the test
  pub first_place_lem : (xs : List X) (r : Option ℕ) → First P xs r → r ≡ position p xs
  first_place_lem xs None h = sym (nothing xs 0 h) ∙ sym (position_from-zero p xs)
  first_place_lem xs (Some i) h =
      let e : i ≡ 0 + i = omega arith in
      ap Some e ∙ sym (something xs 0 i h.0 h.1 h.2) ∙ sym (position_from-zero p xs)
