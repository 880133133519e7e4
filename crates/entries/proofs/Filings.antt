-- Filing a term, and adding a literal to a clause, from what a search answers.
use Rattle.std.proofs.Common.{◌≡◌, ℕ, ◌+◌, ◌<◌, ◌≤◌, ltb, ◌⊎◌, List, [], ◌∷◌, ◌++◌, length, take, set, Some, None, Decides, Option, position, sym, refl, ap, ◌∙◌, subst, inl, inr, arith}
use Rattle.std.specs.List.{HoldsAt}
use Rattle.std.proofs.lemmas.List.{length-take-le, take_more_set, length_push, get_or_push, get_or_append_left}
use Rattle.std.proofs.lemmas.Bool.{cases_Bool, cond-true, cond-false, lt-ltb, le-ltb}
use Rattle.std.proofs.lemmas.Bool.Decides.{Decides-by_or}
use Rattle.entries.specs.declared.entry.Literal.{Literal}
use Rattle.entries.specs.declared.entry.Term.{Term}
use Rattle.entries.specs.Clauses.{holds_literal}
use Rattle.entries.specs.Equality.{same_term, same_literal}
use Rattle.entries.specs.Filing.{at_end, filed_at, file, Filed}
use Rattle.entries.specs.First.{First}
use Rattle.entries.proofs.Alike.{same_term_decides, same_literal_decides}
use Rattle.entries.proofs.Firsts.{first_place_lem}

-- what stands nowhere stands first at the end where it is added
pub first_pushed : {Y : Type 0} (ys : List Y) (y : Y) (n : ℕ) → length ys ≡ n → First (λ u. u ≡ y) ys None → First (λ u. u ≡ y) (ys ++ y ∷ []) (Some n)
first_pushed ys y n len none =
    let e = length_push ys y in
    (omega arith, (λ d. get_or_push ys y d n len), λ k d z lt here. let h : k < length ys = omega arith in none k d z h (sym (get_or_append_left ys (y ∷ []) d k h) ∙ here))

module _ (ts : List Term) (n most : ℕ) (t : Term) where
  pub file_by : (r : Option ℕ) → First (λ x. x ≡ t) (take n ts) r → filed_at most (take n ts) t r ≡ file most (take n ts) t
  file_by r h = ap (filed_at most (take n ts) t) (first_place_lem (λ x. x ≡ t) (λ x. same_term x t) (λ x. same_term_decides x t) (take n ts) r h)

  pub file_full : n ≤ length ts → most ≤ n → First (λ x. x ≡ t) (take n ts) None → (None, take n ts) ≡ file most (take n ts) t
  file_full fit no_room h =
      let l = length-take-le n ts fit in
      sym (cond-false _ _ _ (le-ltb (length (take n ts)) most (omega arith))) ∙ file_by None h

  pub file_end : n < length ts → n < most → First (λ x. x ≡ t) (take n ts) None → (Some n, take (n + 1) (set ts n t)) ≡ file most (take n ts) t
  file_end fit room h =
      let l = length-take-le n ts (omega arith) in
      let e = take_more_set ts n t fit in
      let whole : at_end most (take n ts) t ≡ (Some (length (take n ts)), take n ts ++ t ∷ []) =
      cond-true _ _ _ (lt-ltb (length (take n ts)) most (omega arith)) in
      let same : (Some n, take (n + 1) (set ts n t)) ≡ (Some (length (take n ts)), take n ts ++ t ∷ []) = cc in
      same ∙ sym whole ∙ file_by None h

  -- ---- what that means
  pub stands_end : n < length ts → First (λ x. x ≡ t) (take n ts) None → Filed most t (Some n) (take (n + 1) (set ts n t))
  stands_end fit h =
      subst (λ us. First (λ u. u ≡ t) us (Some n)) (sym (take_more_set ts n t fit))
      (first_pushed (take n ts) t n (length-take-le n ts (omega arith)) h)

-- the list stays as it is, or has the term at its end
filed_cases : (most : ℕ) (ts : List Term) (t : Term) (r : Option ℕ) → ((filed_at most ts t r).1 ≡ ts) ⊎ ((filed_at most ts t r).1 ≡ ts ++ t ∷ [])
filed_cases most ts t (Some i) = inl refl
filed_cases most ts t None = elim (cases_Bool (ltb (length ts) most)) [
  | inl e ↦ inr (ap (λ (p : Option ℕ × List Term). p.1) (cond-true (ltb (length ts) most) (Some (length ts), ts ++ t ∷ []) (None, ts) e))
  | inr e ↦ inl (ap (λ (p : Option ℕ × List Term). p.1) (cond-false (ltb (length ts) most) (Some (length ts), ts ++ t ∷ []) (None, ts) e))
]

pub file_cases : (most : ℕ) (ts : List Term) (t : Term) → ((file most ts t).1 ≡ ts) ⊎ ((file most ts t).1 ≡ ts ++ t ∷ [])
file_cases most ts t = filed_cases most ts t (position (λ u. same_term u t) ts)

-- ---- a literal is added to a clause
pub holds_decides : (c : List Literal) (l : Literal) → Decides (holds_literal c l) ((k : ℕ) × (k < length c) × HoldsAt (λ m. m ≡ l) c k)
holds_decides c l =
    Decides-by_or (λ m. same_literal m l) (λ m. m ≡ l) (λ ms. holds_literal ms l) (λ m. same_literal_decides m l) refl (λ _ _. refl) c
