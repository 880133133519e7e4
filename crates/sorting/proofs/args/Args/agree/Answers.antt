use Rattle.std.proofs.Common.{ℕ, rules, tests, ◌∙◌}
use Rattle.std.proofs.lemmas.Iterator.{YieldsList-from_slice, YieldsList-from_zip}
use Rattle.std.proofs.lemmas.Iterator.Search.{all_from_yields_List}
use Rattle.entries.specs.declared.entry.Sort.{Sort}
use Rattle.entries.specs.Equality.{same_sort}
use Rattle.meaning.specs.Proper.{sort_at}
use Rattle.sorting.proofs.Sorts.{agreed, second_yes, second_no}
use Rattle.sorting.proofs.args.Args.agree.Goals as goal

pub returns-then-self-sorts : goal.returns-then-self-sorts
returns-then-self-sorts c =
    let sort_of = sort_at c.self.inside.terms.now in
    let e = all_from_yields_List (λ (p : ℕ × Sort). same_sort (sort_of p.0) p.1) c.all.new.self _ _ c.all.ensures.ran
    (YieldsList-from_zip (YieldsList-from_slice c.self.inside.numbers.now cc) (YieldsList-from_slice c.args.sorts.now cc)) (λ x b q k. search (rules, tests)) in
    e ∙ second_yes _ _ _ _ c.if-self-sorts.true (agreed sort_of c.self.inside.numbers.now c.args.self.now c.self.view_is c.args.sorts.now)

pub returns-else-self-sorts : goal.returns-else-self-sorts
returns-else-self-sorts c =
    second_no _ _ _ _ c.if-self-sorts.false (agreed (sort_at c.self.inside.terms.now) c.self.inside.numbers.now c.args.self.now c.self.view_is c.args.sorts.now)
