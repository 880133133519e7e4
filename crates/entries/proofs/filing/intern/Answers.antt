use Rattle.std.proofs.Common.{Some, arith}
use Rattle.entries.specs.Filing.{room}
use Rattle.entries.proofs.Filings.{file_by, file_full, file_end, stands_end}
use Rattle.entries.proofs.filing.intern.Goals as goal

pub returns-then-end-min-clause-filed : goal.returns-then-end-min-clause-filed
returns-then-end-min-clause-filed c =
    file_full c.args.terms.now c.args.count.now (room 4096 c.args.terms.now) c.args.term (omega arith) (omega arith) c.in-None.ensures

pub returns-in-Some-clause-filed : goal.returns-in-Some-clause-filed
returns-in-Some-clause-filed c =
    file_by c.args.terms.now c.args.count.now (room 4096 c.args.terms.now) c.args.term (Some c.in-Some.place) c.in-Some.ensures

pub returns-else-end-min-clause-filed : goal.returns-else-end-min-clause-filed
returns-else-end-min-clause-filed c =
    file_end c.args.terms.now c.args.count.now (room 4096 c.args.terms.now) c.args.term (omega arith) (omega arith) c.in-None.ensures

pub returns-else-end-min-clause-stands : goal.returns-else-end-min-clause-stands
returns-else-end-min-clause-stands c =
    stands_end c.args.terms.now c.args.count.now (room 4096 c.args.terms.now) c.args.term (omega arith) c.in-None.ensures
