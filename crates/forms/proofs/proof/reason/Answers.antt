use Rattle.forms.specs.Parsed.{named}
use Rattle.forms.proofs.Groups.{not_premises, not_args, no_group, group_follows, reason_made}
use Rattle.forms.proofs.Spelling.{tails}
use Rattle.forms.proofs.proof.reason.Goals as goal

pub returns-in_err-args : goal.returns-in_err-args
returns-in_err-args c =
    rw c.from_residual-in_err-args.ensures
    (λ t fit e. let rest = tails c.in_ok-rule.ensures (tails c.in_ok-after_key.ensures e) in
    let more = group_follows _ _ _ (c.in_ok-premises.premises, c.in_ok-premises.after_premises) c.in_ok-premises.ensures t.premises _ (not_premises t.args t.end) rest in
    no_group _ _ _ c.in_err-args.ensures t.args _ fit.1 (not_args t.end) more.0)

pub returns-in_err-closing : goal.returns-in_err-closing
returns-in_err-closing c =
    rw c.from_residual-in_err-closing.ensures
    (λ t fit e. let rest = tails c.in_ok-rule.ensures (tails c.in_ok-after_key.ensures e) in
    let more = group_follows _ _ _ (c.in_ok-premises.premises, c.in_ok-premises.after_premises) c.in_ok-premises.ensures t.premises _ (not_premises t.args t.end) rest in
    let last = group_follows _ _ _ (c.in_ok-args.args, c.in_ok-args.after_args) c.in_ok-args.ensures t.args _ (not_args t.end) more.0 in
    c.in_err-closing.ensures t.end last.0)

pub returns : goal.returns
returns c =
    reason_made (named c.in_ok-rule.rule) _ _ (c.in_ok-premises.premises, c.in_ok-premises.after_premises) (c.in_ok-args.args, c.in_ok-args.after_args) _ c.in_ok-premises.ensures c.in_ok-args.ensures c.in_ok-closing.ensures _ c.in_ok-after_key.ensures c.in_ok-rule.ensures
