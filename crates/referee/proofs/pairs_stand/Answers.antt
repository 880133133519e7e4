use Rattle.std.proofs.Common.{refl}
use Rattle.referee.specs.Laws.{pairs_keep}
use Rattle.referee.proofs.Samples.{samples_proper}
use Rattle.referee.proofs.pairs_stand.Goals as goal

pub returns : goal.returns
returns c = record { keep = pairs_keep; samples = samples_proper; stands = refl }
