use Rattle.std.proofs.Common.{refl}
use Rattle.connectives.proofs.Worded.{exact, single}
use Rattle.connectives.proofs.rulings_stand.Goals as goal

pub returns : goal.returns
returns c = record { exact = exact; single = single; stands = refl }
