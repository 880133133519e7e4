use Rattle.std.proofs.Common.{Ok, rules}
use Rattle.text.specs.Reading.{Scans}
use Rattle.text.specs.Tokens.{tokens}
use Rattle.text.proofs.Faults.{leftmost}
use Rattle.text.proofs.Shapes.{lexed}
use Rattle.text.proofs.reader.scan.Goals as goal

pub returns-in_err-next : goal.returns-in_err-next
returns-in_err-next c =
    let value : Scans (tokens c.args.text.now) c.from_residual.result = search rules in
    record { value = value; leftmost = leftmost c.args.text.now c.from_residual.result value; lexed = lexed c.args.text.now }

pub returns : goal.returns
returns c =
    let value : Scans (tokens c.args.text.now) (Ok c.loop-count.count) = search rules in
    record { value = value; leftmost = leftmost c.args.text.now (Ok c.loop-count.count) value; lexed = lexed c.args.text.now }
