use Rattle.std.proofs.Common.{◌≡◌}
use Rattle.std.specs.List.{list_all}
use Rattle.equality.specs.Rules.{pairs, settled}
use Rattle.equality.proofs.congruent.all_settled.Given as goal

abbrev pub invariant-loop-s : goal.invariant-loop-s
invariant-loop-s l =
    (goal.iterator-loop-s).can_next l.s-iterator
    × (goal.iterator-loop-s).is_finite l.s-iterator
    × (list_all (settled l.terms l.clause) (pairs l.left l.right)
    ≡ list_all (settled l.terms l.clause) (pairs l.s-iterator.a.rest.now l.s-iterator.b.rest.now))
