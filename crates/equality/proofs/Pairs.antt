-- The pairs of two argument lists of which one has ended.
use Rattle.std.proofs.Common.{◌≡◌, ℕ, ◌⊎◌, List, [], ◌∷◌, refl, ap, ◌∙◌, inl, inr}
use Rattle.equality.specs.Rules.{pairs}

no_more : (ss : List ℕ) → pairs ss [] ≡ []
no_more [] = refl
no_more (s ∷ ss) = refl

pub no_pairs : (ss ts : List ℕ) → (ss ≡ []) ⊎ (ts ≡ []) → pairs ss ts ≡ []
no_pairs ss ts (inl e) = ap (λ xs. pairs xs ts) e
no_pairs ss ts (inr e) = ap (pairs ss) e ∙ no_more ss
