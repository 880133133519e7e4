use Rattle.std.proofs.Common.{ap}
use Rattle.forms.specs.Parsed.{claim}
use Rattle.forms.proofs.Lists.{after_term}
use Rattle.forms.proofs.problem.assert.Goals as goal

pub returns-in_err-closing : goal.returns-in_err-closing
returns-in_err-closing c =
    rw c.from_residual-in_err-closing.ensures
    (λ t fit e. c.in_err-closing.ensures t.end (after_term _ _ _ _ c.in_ok-term.ensures t.term _ e))

pub returns : goal.returns
returns c =
    let term = c.in_ok-term.ensures in
    let spelt = term.spelt in
    let end = c.in_ok-closing.ensures in
    (record { term = term.tree; end = c.in_ok-closing.field-0 }, term.fit, cc, ap claim term.starts)
