-- What it says that a test holds of some number below a bound.
use Rattle.std.specs.Prelude.{◌≡◌, ℕ, ◌<◌, Bool, true}
use Rattle.std.specs.List.{ContainsAt as Has, range_with_len}
use Rattle.std.proofs.Common.{arith}
use Rattle.std.proofs.lemmas.List.FromFn.{length-range_with_len, get_or-range_with_len}
use Rattle.referee.proofs.Members.{some_has, has_some}
use Rattle.connectives.specs.Rules.{some_below}

-- the numbers below a bound are those in its range
below_has : (n k : ℕ) → k < n → Has (range_with_len 0 n) k
below_has n k h = (k, omega (arith, length-range_with_len 0 n), λ d. let at = get_or-range_with_len 0 n k d h in omega (arith, at))

has_below : (n k : ℕ) → Has (range_with_len 0 n) k → k < n
has_below n k w =
    let long = length-range_with_len 0 n in
    let inside : w.0 < n = omega (arith, w.1, long) in
    let at = get_or-range_with_len 0 n w.0 0 inside in
    omega (arith, w.2 0, at)

pub below_where : (n : ℕ) (f : ℕ → Bool) → some_below n f ≡ true → (k : ℕ) × (k < n) × (f k ≡ true)
below_where n f e = let w = some_has f (range_with_len 0 n) e in (w.0, has_below n w.0 w.1, w.2)

pub below_at : (n : ℕ) (f : ℕ → Bool) (k : ℕ) → k < n → f k ≡ true → some_below n f ≡ true
below_at n f k h e = has_some f (range_with_len 0 n) k (below_has n k h) e
