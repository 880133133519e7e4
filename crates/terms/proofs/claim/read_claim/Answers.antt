use Rattle.std.proofs.Common.{subst}
use Rattle.forms.specs.Takes.{NoToken}
use Rattle.terms.proofs.Claims.{some_token}
use Rattle.terms.proofs.claim.read_claim.Goals as goal

pub unreachable-requires : goal.unreachable-requires
unreachable-requires c = some_token _ c.requires.begins (subst NoToken c.at.ensures c.in_default.ensures)
