use Rattle.std.proofs.Common.{◌≡◌, map, option_map, refl, ap, ◌∙◌, rules, tests}
use Rattle.std.specs.Str.{bytes_eq}
use Rattle.std.proofs.lemmas.Iterator.{YieldsList-from_slice}
use Rattle.std.proofs.lemmas.Iterator.Search.{find_from_yields_List}
use Rattle.equality.specs.Names.{names}
use Rattle.equality.proofs.Named.{Row, seen, rule_found}
use Rattle.equality.proofs.rule.rule_named.Goals as goal

pub returns : goal.returns
returns c =
    let rows = c.iter.result.rest.now in
    let test = λ (r : Row). bytes_eq c.args.name.now r.0.now in
    let mapped : c.map.result ≡ option_map (λ x. x.now.1) c.find.result = search rules in
    let found = find_from_yields_List test _ _ c.find.result c.find.ensures.ran (YieldsList-from_slice rows refl) (λ x b q k. search (rules, tests)) in
    let same : map seen rows ≡ names = ap (map seen) c.iter.ensures.rest in
    mapped ∙ rule_found c.args.name.now rows same c.find.result found
