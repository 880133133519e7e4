use Rattle.std.proofs.Common.{length}
use Rattle.pieces.specs.Pieces.{pieces}
use Rattle.pieces.specs.Cutting.{left}
use Rattle.proofcheck.proofs.Counting.{Counted}
use Rattle.proofcheck.proofs.file.check_file.Given as goal

abbrev pub invariant-loop-piece : goal.invariant-loop-piece
invariant-loop-piece l = Counted l.file.part (pieces l.text) (length l.text) l.report (left l.piece-iterator)
