use Rattle.std.proofs.Common.{◌≡◌, ◌∙◌, false, ap, rules}
use Rattle.equality.specs.Rules.{congruent_at, last_sides}
use Rattle.equality.specs.Sides.{equated, such}
use Rattle.equality.proofs.Ends.{front_is, last_sides_is}
use Rattle.equality.proofs.congruent.is_congruent.Goals as goal

pub returns : goal.returns
returns c =
    let terms = c.args.terms.now in
    let clause = c.args.clause.now in
    let last = c.in-Some.last.now in
    let before = c.in-Some.before.now in
    let found : c.is_some_and.result ≡ such (equated terms false last) (congruent_at terms clause before) = search rules in
    let ends = c.in-Some.ensures.cases.0 in
    found
    ∙ ap (λ o. such o (congruent_at terms clause before)) (last_sides_is clause before last ends terms)
    ∙ ap (λ ls. such (last_sides terms clause) (congruent_at terms clause ls)) (front_is clause before last ends)
