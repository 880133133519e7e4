-- Short lists in their arrays.
use Rattle.std.specs.Prelude.{◌≡◌, ℕ, ◌-◌, ◌≤◌, List, ◌++◌, length, take, drop, replicate}
use Rattle.std.proofs.Common.{arith, take-append-drop, length-take-le, ap, sym, ◌∙◌}

-- The first `len` of the n places of an array hold items, and all behind them hold the blank.
pub record Padded {X : Type 0} (n : ℕ) (blank : X) (len : ℕ) (places : List X) : Type 0 where
  pub fits : len ≤ n
  pub whole : length places ≡ n
  pub rest : drop len places ≡ replicate (n - len) blank

-- So the items tell their number and the whole array.
module _ {X : Type 0} (n : ℕ) (blank : X) (len : ℕ) (places : List X) (h : Padded n blank len places) where
  pub as_many : length (take len places) ≡ len
  as_many = length-take-le len places (omega (arith, h.fits, h.whole))

  pub filled_up : take len places ++ replicate (n - length (take len places)) blank ≡ places
  filled_up =
      ap (λ k. take len places ++ replicate (n - k) blank) as_many
      ∙ ap (λ ys. take len places ++ ys) (sym h.rest)
      ∙ take-append-drop len places
