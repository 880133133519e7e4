use Rattle.chains.specs.Sets.{missing}
use Rattle.chains.proofs.Tables.{State}
use Rattle.chains.proofs.search.Chain.follows.Given as goal

abbrev pub invariant-loop : goal.invariant-loop
invariant-loop l = State l.self.clause.now l.self.premises.now l.known

abbrev pub decreases-loop : goal.decreases-loop
decreases-loop l = missing l.known
