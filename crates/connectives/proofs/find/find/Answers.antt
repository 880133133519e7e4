use Rattle.std.proofs.Common.{rules, tests, ap, ◌∙◌}
use Rattle.std.specs.Str.{bytes_eq}
use Rattle.std.specs.Option.{option_map}
use Rattle.std.proofs.lemmas.Iterator.{YieldsList-from_slice}
use Rattle.std.proofs.lemmas.Iterator.Search.{find_from_yields_List}
use Rattle.connectives.specs.declared.table.Rule.{Rule}
use Rattle.connectives.specs.Table.{named}
use Rattle.connectives.specs.Search.{seen}
use Rattle.connectives.proofs.Rows.{found_seen}
use Rattle.connectives.proofs.find.find.Goals as goal

pub returns : goal.returns
returns c =
    let all = c.rules.result.now in
    let has = λ (r : Rule). bytes_eq c.args.name.now r.name.now in
    let found = find_from_yields_List has _ _ _ c.find.ensures.ran (YieldsList-from_slice all cc) (λ x b q k. search (rules, tests)) in
    ap (option_map seen) (c.copied.ensures ∙ found) ∙ found_seen c.args.name.now all ∙ ap (λ rs. named rs c.args.name.now) c.rules.ensures
