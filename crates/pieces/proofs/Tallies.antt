-- Counting a bracket from the left.
use Rattle.std.proofs.Common.{ℕ, Bool, eqb, List, count_by}
use Rattle.pieces.specs.Laws.{outside}

-- how often a byte stands outside comments
abbrev pub tally : ℕ → Bool → List ℕ → ℕ
tally k c bs = count_by (λ b. eqb b k) (outside c bs)
