use Rattle.std.proofs.Common.{◌≡◌, ◌+◌, length}
use Rattle.text.specs.Tokens.{tokens, first_fault}
use Rattle.text.specs.Reading.{left}
use Rattle.text.proofs.reader.scan.Given as goal

abbrev pub invariant-loop-count : goal.invariant-loop-count
invariant-loop-count l =
    (l.count + length (left l.reader) ≡ length (tokens l.text))
    × (first_fault (left l.reader) ≡ first_fault (tokens l.text))

abbrev pub decreases-loop-count : goal.decreases-loop-count
decreases-loop-count l = length (left l.reader)
