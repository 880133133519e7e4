use Rattle.std.proofs.Common.{◌≡◌, drop}
use Rattle.equality.specs.Rules.{leads}
use Rattle.equality.proofs.transitive.leads.Given as goal

abbrev pub invariant-loop-link : goal.invariant-loop-link
invariant-loop-link l = leads l.terms l.from l.links l.to ≡ leads l.terms l.at (drop l.link-index l.links) l.to
