use Rattle.std.proofs.Common.{◌≡◌}
use Rattle.std.specs.List.{list_any}
use Rattle.equality.specs.Rules.{pairs, negates}
use Rattle.equality.proofs.congruent.is_of_pair.Given as goal

abbrev pub invariant-loop-s : goal.invariant-loop-s
invariant-loop-s l =
    (goal.iterator-loop-s).can_next l.s-iterator
    × (goal.iterator-loop-s).is_finite l.s-iterator
    × (list_any (λ p. negates l.terms p l.literal) (pairs l.left l.right)
    ≡ list_any (λ p. negates l.terms p l.literal) (pairs l.s-iterator.a.rest.now l.s-iterator.b.rest.now))
