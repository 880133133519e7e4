-- What the bytes read so far say of a numeral.
use Rattle.std.proofs.Common.{◌≡◌, ℕ, ◌+◌, ◌-◌, ◌*◌, ◌<◌, ◌≤◌, cond, List, [], ◌∷◌, length, get_or, drop, Some, None, Option, arith}
use Rattle.std.proofs.lemmas.List.{at_drop_more}
use Rattle.std.proofs.lemmas.Bool.Decides.{nat_tests}
use Rattle.std.specs.Str.{all_ascii_digits}
use Rattle.text.specs.Tokens.{value_on, is_numeral}

-- the number that bytes write, if they are a numeral
abbrev pub numeral_of : List ℕ → Option ℕ
numeral_of bs = cond (is_numeral bs) (Some (value_on 0 bs)) None

-- more digits never lessen the value
grows : (n : ℕ) (ds : List ℕ) → n ≤ value_on n ds
grows n [] = omega arith
grows n (d ∷ ds) = omega (arith, grows (n * 10 + (d - 48)) ds)

none_by_value : (ds : List ℕ) → 1000000 < value_on 0 ds → None ≡ numeral_of ds
none_by_value ds h = grind (arith, nat_tests)

-- the bytes of `run` before `i` are read, and write v
pub record Read (run : List ℕ) (i v : ℕ) : Type 0 where
  pub small : v ≤ 1000000
  pub value : value_on v (drop i run) ≡ value_on 0 run
  pub digits : all_ascii_digits (drop i run) ≡ all_ascii_digits run

pub large : (run : List ℕ) (i v : ℕ) → Read run i v → i < length run → 1000000 < v * 10 + (get_or run i 0 - 48) → None ≡ numeral_of run
large run i v h lt big =
    none_by_value run (omega (arith, h.value, at_drop_more (value_on v) run i 0 lt, grows (v * 10 + (get_or run i 0 - 48)) (drop (i + 1) run)))
