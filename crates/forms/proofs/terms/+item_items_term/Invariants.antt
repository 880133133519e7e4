use Rattle.std.proofs.Common.{◌+◌, ◌*◌, length}
use Rattle.text.specs.Reading.{left}
use Rattle.forms.proofs.Lists.{Reading}
use Rattle.forms.proofs.terms.+item_items_term.Given as goal

abbrev pub decreases-item : goal.decreases-item
decreases-item l = 2 * length (left l.after) + 1

abbrev pub decreases-items : goal.decreases-items
decreases-items l = 2 * length (left l.reader)

abbrev pub decreases-term : goal.decreases-term
decreases-term l = 2 * length (left l.after)

abbrev pub invariant-items-loop-count : goal.invariant-items-loop-count
invariant-items-loop-count l = Reading l.kind l.count (left l.reader) (left l.rest)
