use Rattle.std.proofs.Common.{Some, None, ap, ◌∙◌}
use Rattle.entries.specs.declared.entry.Name.{Name}
use Rattle.declarations.proofs.Lookups.{name_found}
use Rattle.declarations.proofs.known.Known.name_named.Goals as goal

pub returns-in_err-place : goal.returns-in_err-place
returns-in_err-place c =
    rw c.from_residual.ensures
    (name_found c.args.word.now _ (ap (λ (n : Name). n.word) c.new-sought.ensures ∙ c.new.ensures) _ None c.in_err-place.was c.args.self.now.names.now c.position.ensures)

pub returns : goal.returns
returns c =
    name_found c.args.word.now _ (ap (λ (n : Name). n.word) c.new-sought.ensures ∙ c.new.ensures) _ (Some c.in_ok-place.place) c.in_ok-place.was c.args.self.now.names.now c.position.ensures
