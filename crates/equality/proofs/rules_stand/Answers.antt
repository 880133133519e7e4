use Rattle.std.proofs.Common.{refl}
use Rattle.equality.specs.Keeping.{yes_to_kept}
use Rattle.equality.specs.Tested.{rules_tested}
use Rattle.equality.proofs.rules_stand.Goals as goal

pub returns : goal.returns
returns c = record { tested = rules_tested; kept = yes_to_kept; stands = refl }
