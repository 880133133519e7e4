use Rattle.std.proofs.Common.{◌+◌, sym, ◌∙◌, arith}
use Rattle.pieces.proofs.Feeds.{at_feed, at_other, column_le, part_at}
use Rattle.pieces.proofs.lines.count_on.Goals as goal
use Rattle.pieces.proofs.lines.count_on.Goals.{then-b-eq10, else-b-eq10}

pub overflow_add-column : goal.overflow_add-column
overflow_add-column c =
    omega (arith, c.loop-b.invariant.1, column_le c.args.text.now (c.min-start.result + c.loop-b.b-index))

pub loop-b-preserved : goal.loop-b-preserved
loop-b-preserved c =
    let inv = c.loop-b.invariant in
    let here = part_at c.args.text.now c.min-start.result c.min-end.result c.loop-b.b-index (omega arith) in
    elim c.if-b-eq10.branch [
      | then-b-eq10 w ↦
          let on = at_feed c.args.text.now _ _ _ (omega arith) inv.0 inv.1 _ (omega arith) (sym here ∙ w.if-b-eq10.true) in
          (w.line-is ∙ on.0, w.column-is ∙ on.1)
      | else-b-eq10 w ↦
          let on = at_other c.args.text.now _ _ _ (omega arith) inv.0 inv.1 _ (omega arith) (λ e. w.if-b-eq10.false (here ∙ e)) in
          (w.line-is ∙ on.0, w.column-is ∙ on.1)
    ]
