use Rattle.std.proofs.Common.{refl}
use Rattle.forms.specs.Parsed.{named}
use Rattle.forms.proofs.proof.anchor.Goals as goal

pub returns : goal.returns
returns c =
    let key = c.in_ok-named.ensures in
    let name = c.in_ok-step.ensures in
    let end = c.in_ok-closing.ensures in
    (record { key = c.in_ok-named.field-0-0; step = named c.in_ok-step.step; end = c.in_ok-closing.field-0 }, tt, cc, refl)
