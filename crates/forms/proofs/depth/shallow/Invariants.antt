use Rattle.std.proofs.Common.{◌≡◌, ◌≤◌, length}
use Rattle.text.specs.Reading.{left}
use Rattle.text.specs.Tokens.{tokens}
use Rattle.forms.specs.Faults.{too_deep}
use Rattle.forms.proofs.depth.shallow.Given as goal

abbrev pub invariant-loop-token : goal.invariant-loop-token
invariant-loop-token l = (l.depth ≤ 32) × (too_deep l.depth (left l.reader) ≡ too_deep 0 (tokens l.text))

abbrev pub decreases-loop-token : goal.decreases-loop-token
decreases-loop-token l = length (left l.reader)
