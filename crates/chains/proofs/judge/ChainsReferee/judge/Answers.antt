use Rattle.std.proofs.Common.{true, false, sym}
use Rattle.referee.specs.Questions.{asked}
use Rattle.chains.proofs.Rulings.{clause_placed, premises_placed, ruled_by_lem}
use Rattle.chains.proofs.judge.ChainsReferee.judge.Goals as goal

pub invariant_of-chain : goal.invariant_of-chain
invariant_of-chain c =
    let q = asked c.args.question in
    record { clause_placed = clause_placed q c.requires; premises_placed = premises_placed q c.requires }

pub returns-then-follows : goal.returns-then-follows
returns-then-follows c =
    sym (ruled_by_lem (asked c.args.question) (sym c.if-not-knows.ensures) c.if-question-gt0.false true c.if-follows.ensures)

pub returns-else-follows : goal.returns-else-follows
returns-else-follows c =
    sym (ruled_by_lem (asked c.args.question) (sym c.if-not-knows.ensures) c.if-question-gt0.false false c.if-follows.ensures)
