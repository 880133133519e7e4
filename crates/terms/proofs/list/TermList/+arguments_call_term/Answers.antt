use Rattle.std.proofs.Common.{length, Ok, Err, ap, arith}
use Rattle.std.proofs.lemmas.Result.{err_from_is_err_and}
use Rattle.text.specs.Reading.{left}
use Rattle.terms.specs.Memory.{listed, most}
use Rattle.terms.proofs.Calls.{inside, args_begin, args_failed, call_unknown, call_placed}
use Rattle.terms.proofs.Leaves.{symbol_unknown, symbol_placed, numeral_placed, no_other, refused_reads}
use Rattle.terms.proofs.Turns.{turn_token, turn_closed, turn_begins, turn_room, turn_stopped, turn_less, turn_next, refused_all, onward_on}
use Rattle.terms.proofs.list.TermList.+arguments_call_term.Goals as goal

pub arguments-unreachable-requires : goal.arguments-unreachable-requires
arguments-unreachable-requires t c =
    turn_token c.args.self.now c.loop-first.self (left c.args.reader) c.loop-first.args (left c.loop-first.rest) c.loop-first.invariant c.in_default.ensures

pub arguments-returns-in-Close-clause-reads : goal.arguments-returns-in-Close-clause-reads
arguments-returns-in-Close-clause-reads t c =
    turn_closed c.args.self.now c.loop-first.self (left c.args.reader) c.loop-first.args (left c.loop-first.rest) c.loop-first.invariant c.in-Some.first c.in-Close.at (left c.in-Some.after) c.in-Some.ensures c.in-Close.is

pub arguments-term-requires : goal.arguments-term-requires
arguments-term-requires t c = (
  omega (arith, c.loop-first.invariant.fewer, ap length c.in-Some.ensures),
  turn_begins c.args.self.now c.loop-first.self (left c.args.reader) c.loop-first.args (left c.loop-first.rest) c.loop-first.invariant c.in-Some.first (left c.in-Some.after) c.in-Some.ensures c.in_default-first.not-Close,
)

pub arguments-returns-in_err-number-clause-reads : goal.arguments-returns-in_err-number-clause-reads
arguments-returns-in_err-number-clause-reads t c =
    let p = err_from_is_err_and c.from_residual.result c.from_residual.ensures.1 in
    refused_all c.args.self.now.names.now (most c.args.self.now) _ _ _ c.from_residual.result p.0 c.in_err-number.field-0.0 p.1 p.2
    (turn_stopped c.args.self.now c.loop-first.self (left c.args.reader) c.loop-first.args (left c.loop-first.rest) c.loop-first.invariant c.in-Some.first (left c.in-Some.after) c.in-Some.ensures c.in_default-first.not-Close c.in_err-number.field-0.0 (listed c.term.new.self) c.in_err-number.ensures.reads)

pub arguments-returns-in_err-number-clause-onward : goal.arguments-returns-in_err-number-clause-onward
arguments-returns-in_err-number-clause-onward t c = onward_on _ _ _ c.loop-first.invariant.added c.in_err-number.ensures.onward

pub arguments-push-requires : goal.arguments-push-requires
arguments-push-requires t c = (
  omega arith,
  turn_room c.args.self.now c.loop-first.self (left c.args.reader) c.loop-first.args (left c.loop-first.rest) c.loop-first.invariant c.in-Some.first (left c.in-Some.after) c.in-Some.ensures c.in_default-first.not-Close,
)

pub arguments-loop-first-smaller : goal.arguments-loop-first-smaller
arguments-loop-first-smaller t c =
    turn_less c.args.self.now c.loop-first.self (left c.args.reader) c.loop-first.args (left c.loop-first.rest) c.loop-first.invariant c.in-Some.first (left c.in-Some.after) c.in-Some.ensures c.in_default-first.not-Close c.in_ok-number.number (left c.in_ok-number.behind) c.term.new.self c.in_ok-number.ensures.reads

pub arguments-loop-first-preserved : goal.arguments-loop-first-preserved
arguments-loop-first-preserved t c =
    let done = c.in_ok-number.ensures in
    turn_next c.args.self.now c.loop-first.self (left c.args.reader) c.loop-first.args (left c.loop-first.rest) c.loop-first.invariant c.in-Some.first (left c.in-Some.after) c.in-Some.ensures c.in_default-first.not-Close c.in_ok-number.number (left c.in_ok-number.behind) c.term.new.self done.reads done.onward done.within _ c.push.ensures

pub call-unreachable-requires : goal.call-unreachable-requires
call-unreachable-requires t c = let i = inside c.args.at (left c.args.after) c.requires in c.in_default.ensures i.word i.bytes _ i.spelt

pub call-arguments-requires : goal.call-arguments-requires
call-arguments-requires t c = (
  omega (arith, ap length c.in-Some.ensures),
  args_begin c.args.self.now.names.now (most c.args.self.now) c.args.wants (listed c.args.self.now) c.args.at (left c.args.after) c.requires c.in-Some.word.at c.in-Some.word.text.now (left c.in-Some.inner) c.in-Some.ensures,
)

pub call-returns-in-Err-clause-reads : goal.call-returns-in-Err-clause-reads
call-returns-in-Err-clause-reads t c =
    args_failed c.args.self.now.names.now (most c.args.self.now) c.args.wants (listed c.args.self.now) c.args.at (left c.args.after) c.requires c.in-Some.word.at c.in-Some.word.text.now (left c.in-Some.inner) c.in-Some.ensures c.in-Err.fault (listed c.arguments.new.self) c.in-Err.ensures.reads

pub call-returns-in_err-head-clause-reads : goal.call-returns-in_err-head-clause-reads
call-returns-in_err-head-clause-reads t c =
    let p = err_from_is_err_and c.from_residual.result c.from_residual.ensures.1 in
    refused_reads c.args.self.now.names.now (most c.args.self.now) c.args.wants _ _ _ c.from_residual.result p.0 c.in_err-head.field-0.0 p.1 p.2
    (call_unknown c.args.self.now c.arguments.new.self c.in-Ok.ensures.onward c.args.wants c.args.at (left c.args.after) c.requires c.in-Some.word.at c.in-Some.word.text.now (left c.in-Some.inner) c.in-Some.ensures c.in-Ok.read.0 (left c.in-Ok.read.1) c.in-Ok.ensures.reads c.head_named.result c.head_named.ensures
    c.in_err-head.field-0.0 c.in_err-head.ensures.value)

pub call-returns-in_err-number-clause-reads : goal.call-returns-in_err-number-clause-reads
call-returns-in_err-number-clause-reads t c =
    let p = err_from_is_err_and c.from_residual-in_err-number.result c.from_residual-in_err-number.ensures.1 in
    refused_reads c.args.self.now.names.now (most c.args.self.now) c.args.wants _ _ _ c.from_residual-in_err-number.result p.0 c.in_err-number.field-0.0 p.1 p.2
    (call_placed c.args.self.now c.arguments.new.self c.in-Ok.ensures.onward c.args.wants c.args.at (left c.args.after) c.requires c.in-Some.word.at c.in-Some.word.text.now (left c.in-Some.inner) c.in-Some.ensures c.in-Ok.read.0 (left c.in-Ok.read.1) c.in-Ok.ensures.reads c.head_named.result c.head_named.ensures
    c.in_ok-head.head c.in_ok-head.ensures.value c.as_slice.result.now c.as_slice.ensures.items (Err c.in_err-number.field-0.0) (listed c.place.new.self) c.in_err-number.ensures.does)

pub call-returns-in_err-number-clause-onward : goal.call-returns-in_err-number-clause-onward
call-returns-in_err-number-clause-onward t c = onward_on _ _ _ c.in-Ok.ensures.onward c.in_err-number.ensures.onward

pub call-returns-clause-reads : goal.call-returns-clause-reads
call-returns-clause-reads t c =
    call_placed c.args.self.now c.arguments.new.self c.in-Ok.ensures.onward c.args.wants c.args.at (left c.args.after) c.requires c.in-Some.word.at c.in-Some.word.text.now (left c.in-Some.inner) c.in-Some.ensures c.in-Ok.read.0 (left c.in-Ok.read.1) c.in-Ok.ensures.reads c.head_named.result c.head_named.ensures
    c.in_ok-head.head c.in_ok-head.ensures.value c.as_slice.result.now c.as_slice.ensures.items (Ok c.in_ok-number.number) (listed c.place.new.self) c.in_ok-number.ensures.does

pub call-returns-clause-onward : goal.call-returns-clause-onward
call-returns-clause-onward t c = onward_on _ _ _ c.in-Ok.ensures.onward c.in_ok-number.ensures.onward

pub term-returns-in_err-head-in-Symbol-clause-reads : goal.term-returns-in_err-head-in-Symbol-clause-reads
term-returns-in_err-head-in-Symbol-clause-reads t c =
    let p = err_from_is_err_and c.from_residual.result c.from_residual.ensures.1 in
    refused_reads c.args.self.now.names.now (most c.args.self.now) c.args.wants _ _ _ c.from_residual.result p.0 c.in_err-head-in-Symbol.field-0.0 p.1 p.2
    (symbol_unknown c.args.self.now.names.now (most c.args.self.now) c.args.wants (listed c.args.self.now) c.args.first (left c.args.after) _ _ c.in-Symbol.is c.head_named.result c.head_named.ensures
    c.in_err-head-in-Symbol.field-0.0 c.in_err-head-in-Symbol.ensures.value)

pub term-returns-in_err-number-in-Symbol-clause-reads : goal.term-returns-in_err-number-in-Symbol-clause-reads
term-returns-in_err-number-in-Symbol-clause-reads t c =
    let p = err_from_is_err_and c.from_residual-in_err-number-in-Symbol.result c.from_residual-in_err-number-in-Symbol.ensures.1 in
    refused_reads c.args.self.now.names.now (most c.args.self.now) c.args.wants _ _ _ c.from_residual-in_err-number-in-Symbol.result p.0 c.in_err-number-in-Symbol.field-0.0 p.1 p.2
    (symbol_placed c.args.self.now.names.now (most c.args.self.now) c.args.wants (listed c.args.self.now) c.args.first (left c.args.after) _ _ c.in-Symbol.is c.head_named.result c.head_named.ensures
    c.in_ok-head-in-Symbol.head c.in_ok-head-in-Symbol.ensures.value (Err c.in_err-number-in-Symbol.field-0.0) (listed c.place.new.self) c.in_err-number-in-Symbol.ensures.does)

pub term-returns-in_err-number-in-Numeral-clause-reads : goal.term-returns-in_err-number-in-Numeral-clause-reads
term-returns-in_err-number-in-Numeral-clause-reads t c =
    let p = err_from_is_err_and c.from_residual-in_err-number-in-Numeral.result c.from_residual-in_err-number-in-Numeral.ensures.1 in
    refused_reads c.args.self.now.names.now (most c.args.self.now) c.args.wants _ _ _ c.from_residual-in_err-number-in-Numeral.result p.0 c.in_err-number-in-Numeral.field-0.0 p.1 p.2
    (numeral_placed c.args.self.now.names.now (most c.args.self.now) c.args.wants (listed c.args.self.now) c.args.first (left c.args.after) _ _ c.in-Numeral.is (Err c.in_err-number-in-Numeral.field-0.0) (listed c.place-in-Numeral.new.self) c.in_err-number-in-Numeral.ensures.does)

pub term-unreachable-requires : goal.term-unreachable-requires
term-unreachable-requires t c =
    no_other c.args.self.now.names.now (most c.args.self.now) c.args.wants (listed c.args.self.now) c.args.first (left c.args.after) c.requires c.in_default.not-Symbol c.in_default.not-Numeral c.in_default.not-Open

pub term-returns-in_ok-number-in-Symbol-clause-reads : goal.term-returns-in_ok-number-in-Symbol-clause-reads
term-returns-in_ok-number-in-Symbol-clause-reads t c =
    symbol_placed c.args.self.now.names.now (most c.args.self.now) c.args.wants (listed c.args.self.now) c.args.first (left c.args.after) _ _ c.in-Symbol.is c.head_named.result c.head_named.ensures
    c.in_ok-head-in-Symbol.head c.in_ok-head-in-Symbol.ensures.value (Ok c.in_ok-number-in-Symbol.number) (listed c.place.new.self) c.in_ok-number-in-Symbol.ensures.does

pub term-returns-in_ok-number-in-Numeral-clause-reads : goal.term-returns-in_ok-number-in-Numeral-clause-reads
term-returns-in_ok-number-in-Numeral-clause-reads t c =
    numeral_placed c.args.self.now.names.now (most c.args.self.now) c.args.wants (listed c.args.self.now) c.args.first (left c.args.after) _ _ c.in-Numeral.is (Ok c.in_ok-number-in-Numeral.number) (listed c.place-in-Numeral.new.self) c.in_ok-number-in-Numeral.ensures.does
