use Rattle.std.proofs.Common.{rules}
use Rattle.proofcheck.proofs.report.ReportDisplay.fmt.Goals as goal

pub returns-clause-writes : goal.returns-clause-writes
returns-clause-writes g c = rw (← c.count.ensures, ← c.count-2.ensures) (search rules)
