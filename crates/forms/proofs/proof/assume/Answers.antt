use Rattle.std.proofs.Common.{ap}
use Rattle.forms.specs.Parsed.{named, assumes}
use Rattle.forms.proofs.Lists.{after_term}
use Rattle.forms.proofs.Spelling.{tails}
use Rattle.forms.proofs.proof.assume.Goals as goal

pub returns-in_err-closing : goal.returns-in_err-closing
returns-in_err-closing c =
    rw c.from_residual-in_err-closing.ensures
    (λ t fit e. c.in_err-closing.ensures t.end (after_term _ _ _ _ c.in_ok-term.ensures t.term _ (tails c.in_ok-name.ensures e)))

pub returns : goal.returns
returns c =
    let name = c.in_ok-name.ensures in
    let term = c.in_ok-term.ensures in
    let spelt = term.spelt in
    let end = c.in_ok-closing.ensures in
    (record { assumption = named c.in_ok-name.name; term = term.tree; end = c.in_ok-closing.field-0 }, term.fit, cc, ap (λ at. assumes (named c.in_ok-name.name) at) term.starts)
