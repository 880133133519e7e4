use Rattle.std.proofs.Common.{length, take, reverse}
use Rattle.chains.proofs.Tables.{Walk}
use Rattle.chains.proofs.search.Chain.pass.Given as goal

abbrev pub invariant-loop-premise : goal.invariant-loop-premise
invariant-loop-premise l =
    (goal.iterator-loop-premise).can_next l.premise-iterator
    × (goal.iterator-loop-premise).is_finite l.premise-iterator
    × Walk l.self.premises.now (take (length l.yielded) (reverse l.self.premises.now)) l.fn.known l.known l.grew
