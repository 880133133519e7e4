use Rattle.std.proofs.Common.{refl}
use Rattle.forms.specs.Parsed.{named}
use Rattle.forms.proofs.problem.declare_sort.Goals as goal

pub returns : goal.returns
returns c =
    let name = c.in_ok-sort.ensures in
    let zero = c.in_ok-value.ensures in
    let is_zero = c.if-value-ne-ARITY.false in
    let end = c.in_ok-closing.ensures in
    (record { sort = named c.in_ok-sort.sort; zero_at = c.in_ok-value.field-0-0; end = c.in_ok-closing.field-0 }, tt, cc, refl)
