use Rattle.std.proofs.Common.{ap}
use Rattle.forms.specs.Parsed.{named, steps}
use Rattle.forms.proofs.Groups.{clause_follows}
use Rattle.forms.proofs.Spelling.{tails}
use Rattle.forms.proofs.proof.step.Goals as goal

pub returns-in_err-reason : goal.returns-in_err-reason
returns-in_err-reason c =
    rw c.from_residual-in_err-reason.ensures
    (λ t fit e. c.in_err-reason.ensures t.reason fit.2 (clause_follows _ _ _ c.in_ok-clause.ensures t.at t.cl t.literals t.right _ (tails c.in_ok-name.ensures e)))

pub returns : goal.returns
returns c =
    let name = c.in_ok-name.ensures in
    let clause = c.in_ok-clause.ensures in
    let opened = clause.opened in
    let spelt = clause.listed.spelt in
    let why = c.in_ok-reason.ensures in
    let reason = why.2 in
    (record { step = named c.in_ok-name.name; at = c.in_ok-clause.clause; cl = clause.cl; literals = clause.listed.trees; right = clause.listed.end; reason = why.0 }, (clause.listed.few, clause.listed.fits, why.1), cc, ap (λ j. steps (named c.in_ok-name.name) c.in_ok-clause.clause j) why.3)
