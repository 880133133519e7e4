use Rattle.std.proofs.Common.{arith}
use Rattle.proofcheck.proofs.Counting.{room_tokens, step, done}
use Rattle.proofcheck.proofs.file.check_file.Goals as goal

pub add-requires-clause-tokens : goal.add-requires-clause-tokens
add-requires-clause-tokens c =
    omega (arith, room_tokens c.args.file.part _ _ _ _ _ c.loop-piece.invariant _ c.in-Some.ensures.steps c.outcome_of-outcome.result c.outcome_of-outcome.ensures.value)

pub loop-piece-preserved : goal.loop-piece-preserved
loop-piece-preserved c =
    step c.args.file.part _ _ _ _ _ c.loop-piece.invariant _ c.in-Some.ensures.steps c.outcome_of-outcome.result c.outcome_of-outcome.ensures.value
    c.add.new.self c.add.ensures.commands c.add.ensures.tokens c.add.ensures.counts

pub returns : goal.returns
returns c = done c.args.file.part _ _ _ _ c.loop-piece.invariant c.in-None.ensures.steps.0
