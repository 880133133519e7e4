use Rattle.commands.proofs.Deciding.{answer_decides}
use Rattle.commands.proofs.chatter.is_answer.Goals as goal

pub returns-then-answers : goal.returns-then-answers
returns-then-answers c =
    answer_decides _ _ _ c.in-Some.word.text.now _ c.in-Some.ensures (c.answers.ensures.0 c.if-answers.true) c.ended.ensures
