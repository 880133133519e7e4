use Rattle.std.proofs.Common.{Some, None}
use Rattle.declarations.proofs.Lookups.{sort_found}
use Rattle.declarations.proofs.known.declared_sort.Goals as goal

pub returns-in_err-place : goal.returns-in_err-place
returns-in_err-place c =
    rw c.from_residual.ensures
    (sort_found c.args.word.now _ c.new.ensures _ None c.in_err-place.was c.args.sorts.now c.position.ensures)

pub returns : goal.returns
returns c =
    sort_found c.args.word.now _ c.new.ensures _ (Some c.in_ok-place.place) c.in_ok-place.was c.args.sorts.now c.position.ensures
