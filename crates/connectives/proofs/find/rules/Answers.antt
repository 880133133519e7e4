use Rattle.std.proofs.Common.{refl}
use Rattle.connectives.specs.Table.{table}
use Rattle.connectives.proofs.find.rules.Goals as goal

pub returns : goal.returns
unfolding table
returns c = refl
