use Rattle.std.proofs.Common.{◌≡◌, ◌∙◌, ◌&&◌, Bool, List, false, length, nat_lt, ap, rules}
use Rattle.entries.specs.declared.entry.Literal.{Literal}
use Rattle.equality.specs.declared.sides.Sides.{Sides}
use Rattle.equality.specs.Rules.{leads, last_sides}
use Rattle.equality.specs.Sides.{equated, such}
use Rattle.equality.proofs.Ends.{front_is, last_sides_is}
use Rattle.equality.proofs.transitive.is_transitive.Goals as goal

pub returns : goal.returns
returns c =
    let terms = c.args.terms.now in
    let clause = c.args.clause.now in
    let last = c.in-Some.last.now in
    let links = c.in-Some.links.now in
    let test : List Literal → Sides → Bool = λ ls e. nat_lt 0 (length ls) && leads terms e.left ls e.right in
    let found : c.is_some_and.result ≡ such (equated terms false last) (test links) = search rules in
    let ends = c.in-Some.ensures.cases.0 in
    found
    ∙ ap (λ o. such o (test links)) (last_sides_is clause links last ends terms)
    ∙ ap (λ ls. such (last_sides terms clause) (test ls)) (front_is clause links last ends)
