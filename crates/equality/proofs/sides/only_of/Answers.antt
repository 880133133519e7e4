use Rattle.std.proofs.Common.{◌≡◌, true, ◌∙◌, sym, ap, rules, tests}
use Rattle.std.specs.Option.{option_copied}
use Rattle.std.specs.List.{list_all}
use Rattle.std.proofs.lemmas.Iterator.{YieldsList-from_slice}
use Rattle.std.proofs.lemmas.Iterator.Search.{all_from_yields_List}
use Rattle.entries.specs.Equality.{same_literal}
use Rattle.equality.proofs.Firsts.{only_first}
use Rattle.equality.proofs.sides.only_of.Goals as goal

pub returns-then-all : goal.returns-then-all
returns-then-all c =
    let first = c.in_ok-first.first.now in
    let a = all_from_yields_List (same_literal first) _ _ c.all.result c.all.ensures.ran (YieldsList-from_slice c.args.clause.now (cc)) (λ x b q k. search (rules, tests)) in
    let t : list_all (same_literal first) c.args.clause.now ≡ true = sym a ∙ c.if-all.true in
    only_first c.args.clause.now first (sym c.first.ensures.value ∙ ap option_copied c.in_ok-first.was) t
