use Rattle.commands.proofs.Deciding.{chatter_problem, chatter_proof}
use Rattle.commands.proofs.chatter.is_speech.Goals as goal

pub returns-in-Problem : goal.returns-in-Problem
returns-in-Problem c = chatter_problem c.args.part _ _ _ c.in-Problem.is c.new.ensures.all c.is_request.ensures

pub returns-in-Proof : goal.returns-in-Proof
returns-in-Proof c = chatter_proof c.args.part _ _ _ c.in-Proof.is c.new-in-Proof.ensures.all c.is_answer.ensures
