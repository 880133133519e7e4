use Rattle.std.proofs.Common.{refl}
use Rattle.chains.proofs.cases_stand.Goals as goal

-- one `refl` for each case: both sides compute to the same ruling
pub returns : goal.returns
returns c = record { cases = (refl, (refl, (refl, (refl, (refl, (refl, (refl, (refl, (refl, (refl, (refl, tt))))))))))); stands = refl }
