use Rattle.std.proofs.Common.{ap, arith}
use Rattle.std.proofs.lemmas.List.{take_rest}
use Rattle.pieces.specs.Pieces.{enclosed}
use Rattle.pieces.proofs.Closing.{closing_on, closed, closing_none}
use Rattle.pieces.proofs.nest.bracket_end.Goals as goal

pub returns-then-depth-eq0-clause-value : goal.returns-then-depth-eq0-clause-value
returns-then-depth-eq0-clause-value c =
    let inv = c.loop-passed.invariant in
    let end = closed _ _ _ _ _ c.loop-passed-test.true inv.0 inv.1 inv.2 _ c.depth_behind-depth.ensures _ c.comment_behind-comment.ensures c.if-depth-eq0.true in
    omega (arith, ap enclosed (take_rest c.args.text.now c.args.from))

pub loop-passed-preserved : goal.loop-passed-preserved
loop-passed-preserved c =
    let inv = c.loop-passed.invariant in
    let on = closing_on _ _ _ _ _ c.loop-passed-test.true inv.0 inv.1 inv.2 _ c.depth_behind-depth.ensures _ c.comment_behind-comment.ensures in
    (omega (arith, c.if-depth-eq0.false), on.0, on.1)

pub returns-clause-value : goal.returns-clause-value
returns-clause-value c =
    let inv = c.loop-passed.invariant in
    omega (arith, inv.2, closing_none c.loop-passed.depth c.loop-passed.comment _ _ c.loop-passed-test.false, ap enclosed (take_rest c.args.text.now c.args.from))
