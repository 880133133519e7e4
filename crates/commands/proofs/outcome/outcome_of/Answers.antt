use Rattle.commands.proofs.Determined.{determined}
use Rattle.commands.proofs.outcome.outcome_of.Goals as goal

pub returns-then-is_chatter-clause-determined : goal.returns-then-is_chatter-clause-determined
returns-then-is_chatter-clause-determined c = determined c.args.part c.args.text.now

pub returns-in-Ok-clause-determined : goal.returns-in-Ok-clause-determined
returns-in-Ok-clause-determined c = determined c.args.part c.args.text.now

pub returns-in-Err-clause-determined : goal.returns-in-Err-clause-determined
returns-in-Err-clause-determined c = determined c.args.part c.args.text.now
