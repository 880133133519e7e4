use Rattle.std.proofs.Common.{◌≡◌, true, false, [], ◌∷◌, ◌++◌, sym, ap, ◌∙◌, rules, tests}
use Rattle.std.proofs.lemmas.Bool.{cond-true, cond-false}
use Rattle.std.proofs.lemmas.Iterator.{YieldsList-from_slice}
use Rattle.std.proofs.lemmas.Iterator.Search.{any_from_yields_List}
use Rattle.entries.specs.Clauses.{holds_literal}
use Rattle.entries.specs.Equality.{same_literal}
use Rattle.entries.proofs.clause.Clause.push.Goals as goal

pub returns-then-not-there : goal.returns-then-not-there
returns-then-not-there c =
    let seen = any_from_yields_List (λ m. same_literal m c.args.literal) _ _ c.any-there.result c.any-there.ensures.ran (YieldsList-from_slice c.literals.result.now (cc)) (λ x b q k. search (rules, tests)) in
    let same = ap (λ ls. holds_literal ls c.args.literal) c.literals.ensures.literals in
    let new : holds_literal c.args.self.now c.args.literal ≡ false = sym same ∙ sym seen ∙ c.if-not-there.true in
    c.push.ensures ∙ ap (λ ls. ls ++ c.args.literal ∷ []) c.self.view_is ∙ sym (cond-false _ _ _ new)

pub returns-else-not-there : goal.returns-else-not-there
returns-else-not-there c =
    let seen = any_from_yields_List (λ m. same_literal m c.args.literal) _ _ c.any-there.result c.any-there.ensures.ran (YieldsList-from_slice c.literals.result.now (cc)) (λ x b q k. search (rules, tests)) in
    let same = ap (λ ls. holds_literal ls c.args.literal) c.literals.ensures.literals in
    let there : holds_literal c.args.self.now c.args.literal ≡ true = sym same ∙ sym seen ∙ c.if-not-there.false in
    sym (cond-true _ _ _ there)
