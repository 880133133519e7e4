use Rattle.std.proofs.Common.{◌≡◌, ◌-◌, refl, sym, ap, ◌∙◌, arith, rules, tests}
use Rattle.std.proofs.lemmas.Iterator.{YieldsList-from_range}
use Rattle.std.proofs.lemmas.Iterator.Search.{any_from_yields_List}
use Rattle.referee.specs.Questions.{asked}
use Rattle.connectives.specs.Choice.{Chosen, args_of}
use Rattle.connectives.specs.Rules.{connects, choices, meets_at}
use Rattle.connectives.specs.Search.{seen}
use Rattle.connectives.proofs.Turns.{fits_is}
use Rattle.connectives.proofs.fit.fits.Goals as goal

pub returns-then-connects : goal.returns-then-connects
returns-then-connects c =
    let q = asked c.args.question in
    let r = seen c.args.rule in
    let n = c.choices.result in
    let all : n - 0 ≡ n = omega arith in
    any_from_yields_List (meets_at q r c.args.t) _ _ c.any.result c.any.ensures.ran (YieldsList-from_range 0 n n refl all) (λ x b q k. search (rules, tests))
    ∙ sym (fits_is q r c.args.t n
    (c.if-connects.ensures ∙ ap (λ (z : Chosen). connects c.args.rule.connective z.terms z.term) c.new-first.ensures)
    (c.choices.ensures ∙ ap (λ (z : Chosen). choices c.args.rule.clause.now (args_of z)) c.new-first.ensures))
