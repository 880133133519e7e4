use Rattle.std.proofs.Common.{List, ◌||◌, ◌∙◌, ap, sym, rules, tests}
use Rattle.std.specs.List.{list_any}
use Rattle.std.proofs.lemmas.Bool.{ne_eqb}
use Rattle.std.proofs.lemmas.Iterator.{YieldsList-from_slice}
use Rattle.std.proofs.lemmas.Iterator.Search.{any_from_yields_List}
use Rattle.entries.specs.declared.entry.Literal.{Literal}
use Rattle.equality.specs.Sides.{lone, is_sides}
use Rattle.equality.proofs.cong.is_granted.Goals as goal

pub returns-else-pair : goal.returns-else-pair
returns-else-pair c =
    let test = λ (k : List Literal). is_sides (lone c.args.terms.now k) c.args.pair in
    any_from_yields_List test _ _ c.any.result c.any.ensures.ran (YieldsList-from_slice c.args.premises.now (cc)) (λ x b q k. search (rules, tests))
    ∙ ap (λ b. b || list_any test c.args.premises.now) (sym (ne_eqb c.args.pair.left c.args.pair.right c.if-pair.false))
