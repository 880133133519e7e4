use Rattle.forms.proofs.Lists.{none_without}
use Rattle.forms.proofs.terms.placed_term.Goals as goal

pub returns-in_err-first : goal.returns-in_err-first
returns-in_err-first c = rw c.from_residual.ensures (none_without _ _ c.in_err-first.ensures)
