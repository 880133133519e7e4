use Rattle.std.proofs.Common.{◌≡◌, drop}
use Rattle.std.specs.List.{list_any, list_all}
use Rattle.equality.specs.Rules.{pairs, negates}
use Rattle.equality.proofs.congruent.only_pairs.Given as goal

abbrev pub invariant-loop-l : goal.invariant-loop-l
invariant-loop-l l =
    list_all (λ m. list_any (λ p. negates l.terms p m) (pairs l.left l.right)) l.literals
    ≡ list_all (λ m. list_any (λ p. negates l.terms p m) (pairs l.left l.right)) (drop l.l-index l.literals)
