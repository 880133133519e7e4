use Rattle.std.proofs.Common.{refl}
use Rattle.equality.proofs.Worked.{cases_worked, terms_proper}
use Rattle.equality.proofs.cases_stand.Goals as goal

pub returns : goal.returns
returns c = record { worked = cases_worked; proper = terms_proper; stands = refl }
