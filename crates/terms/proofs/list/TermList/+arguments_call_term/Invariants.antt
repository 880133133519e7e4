use Rattle.std.proofs.Common.{◌+◌, ◌*◌, length}
use Rattle.text.specs.Reading.{left}
use Rattle.terms.proofs.Turns.{Turn}
use Rattle.terms.proofs.list.TermList.+arguments_call_term.Given as goal

abbrev pub decreases-arguments : goal.decreases-arguments
decreases-arguments l = 3 * length (left l.reader)

abbrev pub decreases-call : goal.decreases-call
decreases-call l = 3 * length (left l.after) + 1

abbrev pub decreases-term : goal.decreases-term
decreases-term l = 3 * length (left l.after) + 2

abbrev pub invariant-arguments-loop-first : goal.invariant-arguments-loop-first
invariant-arguments-loop-first l = Turn l.initial.self l.self (left l.reader) l.args (left l.rest)

abbrev pub decreases-arguments-loop-first : goal.decreases-arguments-loop-first
decreases-arguments-loop-first l = length (left l.rest)
