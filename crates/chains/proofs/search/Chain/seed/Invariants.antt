use Rattle.std.proofs.Common.{take}
use Rattle.chains.specs.Sets.{Seeds}
use Rattle.chains.proofs.search.Chain.seed.Given as goal

abbrev pub invariant-loop-literal : goal.invariant-loop-literal
invariant-loop-literal l = Seeds (take l.literal-index l.self.clause.now) l.known
