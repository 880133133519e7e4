use Rattle.std.proofs.Common.{sym}
use Rattle.connectives.specs.Search.{seen}
use Rattle.connectives.specs.Valid.{rule_shows}
use Rattle.connectives.proofs.connectives.ConnectivesReferee.judge.Goals as goal

pub is_met-requires : goal.is_met-requires
is_met-requires c = record { posed = c.requires; shown = rule_shows c.args.question.rule.now (seen c.in-Some.rule) (sym c.in-Some.ensures) }
