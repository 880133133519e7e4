-- The first place of a list at which something holds.
use Rattle.std.specs.Prelude.{ℕ, ◌<◌, List, length, Some, None, Option}
use Rattle.std.specs.List.{HoldsAt, AllWithin}

-- P holds at no place before n.
abbrev pub Nowhere : {X : Type 0} → (X → Type 0) → List X → ℕ → Type 0
Nowhere P xs n = AllWithin (λ x. P x → ⊥) xs 0 n

-- P holds nowhere, or at i and at no place before.
abbrev pub First : {X : Type 0} → (X → Type 0) → List X → Option ℕ → Type 0
First P xs None = Nowhere P xs (length xs)
First P xs (Some i) = (i < length xs) × HoldsAt P xs i × Nowhere P xs i
