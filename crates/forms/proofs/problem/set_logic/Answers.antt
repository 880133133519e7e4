use Rattle.std.proofs.Common.{refl}
use Rattle.forms.specs.Parsed.{named}
use Rattle.forms.proofs.problem.set_logic.Goals as goal

pub returns : goal.returns
returns c =
    let name = c.in_ok-logic.ensures in
    let end = c.in_ok-closing.ensures in
    (record { logic = named c.in_ok-logic.logic; end = c.in_ok-closing.field-0 }, tt, cc, refl)
