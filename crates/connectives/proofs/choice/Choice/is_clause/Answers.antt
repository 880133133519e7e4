use Rattle.std.proofs.Common.{◌∙◌}
use Rattle.connectives.proofs.Clauses.{clause_when, clause_unless}
use Rattle.connectives.proofs.choice.Choice.is_clause.Goals as goal

pub returns-then-all_in : goal.returns-then-all_in
returns-then-all_in c = clause_when c.args.self.now c.args.pieces.now c.args.clause.now c.give_all.result c.if-all_in.ensures c.give_all.ensures

pub returns-else-all_in : goal.returns-else-all_in
returns-else-all_in c = c.if-all_in.false ∙ clause_unless c.args.self.now c.args.pieces.now c.args.clause.now c.if-all_in.ensures
