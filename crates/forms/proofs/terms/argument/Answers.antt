use Rattle.forms.proofs.Items.{no_signed, is_signed, is_number, no_argument}
use Rattle.forms.proofs.Spelling.{tails}
use Rattle.forms.proofs.terms.argument.Goals as goal

pub returns-in_err-signed-in-Open : goal.returns-in_err-signed-in-Open
returns-in_err-signed-in-Open c =
    rw c.from_residual.ensures
    (no_signed _ _ _ c.in-Open.is (λ rest s. c.in_err-signed-in-Open.ensures s.minus _ s.is))

pub returns-in_err-last-in-Open : goal.returns-in_err-last-in-Open
returns-in_err-last-in-Open c =
    rw c.from_residual-in_err-last-in-Open.ensures
    (no_signed _ _ _ c.in-Open.is (λ rest s. c.in_err-last-in-Open.ensures s.place s.value _ (tails c.in_ok-signed-in-Open.ensures s.is)))

pub returns-in_err-rest-in-Open : goal.returns-in_err-rest-in-Open
returns-in_err-rest-in-Open c =
    rw c.from_residual-in_err-rest-in-Open.ensures
    (no_signed _ _ _ c.in-Open.is (λ rest s. c.in_err-rest-in-Open.ensures s.end _ (tails c.in_ok-last-in-Open.ensures (tails c.in_ok-signed-in-Open.ensures s.is))))

pub returns-in-Numeral : goal.returns-in-Numeral
returns-in-Numeral c = is_number _ _ _ _ c.in-Numeral.is

pub returns-in_ok-rest-in-Open : goal.returns-in_ok-rest-in-Open
returns-in_ok-rest-in-Open c =
    let g = c.in_ok-signed-in-Open.ensures in
    let n = c.in_ok-last-in-Open.ensures in
    let z = c.in_ok-rest-in-Open.ensures in
    is_signed _ _ _ _ c.in-Open.is (record { minus = c.in_ok-signed-in-Open.field-0-0; place = c.in_ok-last-in-Open.field-0-0; value = c.in_ok-last-in-Open.field-0-1; end = c.in_ok-rest-in-Open.field-0-0; is = cc })

pub returns-in_default : goal.returns-in_default
returns-in_default c = no_argument _ _ c.in_default.not-Open c.in_default.not-Numeral
