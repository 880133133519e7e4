use Rattle.std.proofs.Common.{◌≡◌, ◌+◌, take}
use Rattle.pieces.specs.Positions.{line_after, column_after}
use Rattle.pieces.proofs.lines.count_on.Given as goal

abbrev pub invariant-loop-b : goal.invariant-loop-b
invariant-loop-b l =
    (l.line ≡ line_after (take (l.start + l.b-index) l.text))
    × (l.column ≡ column_after (take (l.start + l.b-index) l.text))
