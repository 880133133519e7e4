use Rattle.std.proofs.Common.{rules}
use Rattle.proofcheck.proofs.report.FormsDisplay.fmt.Goals as goal

pub returns-in-Problem-clause-writes : goal.returns-in-Problem-clause-writes
returns-in-Problem-clause-writes g c =
    rw (c.in-Problem.is, ← c.count.ensures, ← c.count-in-Problem.ensures, ← c.count-in-Problem-2.ensures, ← c.count-in-Problem-3.ensures) (search rules)

pub returns-in-Proof-clause-writes : goal.returns-in-Proof-clause-writes
returns-in-Proof-clause-writes g c =
    rw (c.in-Proof.is, ← c.count-in-Proof.ensures, ← c.count-in-Proof-2.ensures, ← c.count-in-Proof-3.ensures) (search rules)
