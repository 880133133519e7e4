use Rattle.std.proofs.Common.{◌≡◌, ◌+◌, ◌<◌, ◌≤◌, drop}
use Rattle.pieces.specs.Pieces.{closing, enclosed}
use Rattle.pieces.proofs.nest.bracket_end.Given as goal

abbrev pub invariant-loop-passed : goal.invariant-loop-passed
invariant-loop-passed l =
    (0 < l.depth)
    × (l.depth ≤ l.passed + 1)
    × (l.passed + closing l.depth l.comment (drop l.passed l.b-items) ≡ enclosed l.b-items)
