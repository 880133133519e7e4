use Rattle.std.proofs.Common.{◌∙◌}
use Rattle.referee.specs.Questions.{asked}
use Rattle.connectives.specs.Search.{seen}
use Rattle.connectives.proofs.Seats.{seat_met, seat_within}
use Rattle.connectives.proofs.fit.is_met.Goals as goal

pub any_fits-requires : goal.any_fits-requires
any_fits-requires c = seat_within (asked c.args.question) (seen c.args.rule) c.requires.posed c.seat-literals.result.now c.seat-literals.ensures

pub returns : goal.returns
returns c = c.any_fits.ensures ∙ seat_met (asked c.args.question) (seen c.args.rule) c.requires.posed c.seat-literals.result.now c.seat-literals.ensures c.requires.shown
