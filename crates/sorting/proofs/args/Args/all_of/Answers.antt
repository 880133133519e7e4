use Rattle.std.proofs.Common.{rules, tests, sym, ap, ◌∙◌}
use Rattle.std.proofs.lemmas.Iterator.{YieldsList-from_slice}
use Rattle.std.proofs.lemmas.Iterator.Search.{all_from_yields_List}
use Rattle.std.proofs.lemmas.List.Folds.{list_all-map}
use Rattle.entries.specs.Equality.{same_sort}
use Rattle.meaning.specs.Proper.{sort_at}
use Rattle.meaning.specs.Sorts.{all}
use Rattle.sorting.proofs.args.Args.all_of.Goals as goal

pub returns : goal.returns
returns c =
    let sort_of = sort_at c.self.inside.terms.now in
    all_from_yields_List (λ n. same_sort (sort_of n) c.args.sort) _ _ _ c.all.ensures.ran (YieldsList-from_slice c.self.inside.numbers.now cc) (λ x b q k. search (rules, tests))
    ∙ sym (list_all-map (λ s. same_sort s c.args.sort) sort_of c.self.inside.numbers.now)
    ∙ ap (all c.args.sort) c.self.view_is
