use Rattle.std.proofs.Common.{◌∙◌}
use Rattle.meaning.specs.Proper.{sort_at}
use Rattle.sorting.proofs.Sorts.{exact, second_yes, second_no}
use Rattle.sorting.proofs.args.Args.exactly.Goals as goal

pub returns-then-self-count : goal.returns-then-self-count
returns-then-self-count c =
    c.all_of.ensures
    ∙ second_yes _ _ _ _ c.if-self-count.true (exact (sort_at c.self.inside.terms.now) c.self.inside.numbers.now c.args.self.now c.self.view_is c.args.count c.args.sort)

pub returns-else-self-count : goal.returns-else-self-count
returns-else-self-count c =
    second_no _ _ _ _ c.if-self-count.false (exact (sort_at c.self.inside.terms.now) c.self.inside.numbers.now c.args.self.now c.self.view_is c.args.count c.args.sort)
