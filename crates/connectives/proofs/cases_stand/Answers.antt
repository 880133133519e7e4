use Rattle.std.proofs.Common.{refl}
use Rattle.connectives.specs.Table.{table}
use Rattle.connectives.proofs.cases_stand.Goals as goal

pub returns : goal.returns
unfolding table
returns c = record {
  cases = (refl, (refl, (refl, (refl, (refl, (refl, (refl, (refl, (refl, (refl, (refl, (refl, (refl, (refl, (refl, (refl, tt))))))))))))))));
  examples = (refl, (refl, (refl, (refl, (refl, (refl, (refl, (refl, (refl, (refl, (refl, (refl, (refl, (refl, (refl, (refl, (refl, (refl, (refl, (refl, (refl, (refl, (refl, (refl, (refl, (refl, (refl, tt)))))))))))))))))))))))))));
  stands = refl;
}
