use Rattle.std.proofs.Common.{◌≡◌, drop}
use Rattle.std.specs.List.{list_any}
use Rattle.equality.specs.Rules.{negates}
use Rattle.equality.proofs.congruent.has_negated.Given as goal

abbrev pub invariant-loop-l : goal.invariant-loop-l
invariant-loop-l l = list_any (negates l.terms l.pair) l.clause ≡ list_any (negates l.terms l.pair) (drop l.l-index l.clause)
