use Rattle.std.proofs.Common.{length, ap, rules}
use Rattle.text.proofs.Cuts.{no_part, next_part}
use Rattle.pieces.specs.Pieces.{piece}
use Rattle.pieces.specs.Cutting.{left}
use Rattle.pieces.proofs.cutter.CutterIterator.next.Goals as goal

pub returns-then-at-self-clause-steps : goal.returns-then-at-self-clause-steps
unfolding left
returns-then-at-self-clause-steps c =
    let none = no_part piece c.args.self.now.text.now _ _ c.skip-at.ensures c.if-at-self.true in (none, none)

pub returns-clause-steps : goal.returns-clause-steps
unfolding left
returns-clause-steps c =
    next_part piece c.args.self.now.text.now _ _ c.skip-at.ensures c.if-at-self.false _ c.piece_end-end.ensures.value

pub returns-clause-goes : goal.returns-clause-goes
unfolding left
returns-clause-goes c =
    let one = next_part piece c.args.self.now.text.now _ _ c.skip-at.ensures c.if-at-self.false _ c.piece_end-end.ensures.value in
    let fewer = ap length one in search rules
