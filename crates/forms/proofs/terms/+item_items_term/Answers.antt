use Rattle.std.proofs.Common.{length, ap, inl, inr, arith}
use Rattle.forms.proofs.Items.{is_symbol, no_symbol, is_name, is_numeral, no_term, no_head, inside_cases}
use Rattle.forms.proofs.Lists.{begun, fewer, no_token, too_few, no_item, too_many, onward}
use Rattle.forms.proofs.terms.+item_items_term.Goals as goal

pub item-returns-in-Symbol-first : goal.item-returns-in-Symbol-first
item-returns-in-Symbol-first t c = rw c.in-Symbol.is (is_symbol _ _ _ _ c.in-Symbol-first.is)

pub item-returns-in_default : goal.item-returns-in_default
item-returns-in_default t c = rw c.in-Symbol.is (no_symbol _ _ c.in_default.not-Symbol)

pub items-loop-count-init : goal.items-loop-count-init
items-loop-count-init t c = begun _ _

pub items-returns-in_err-first : goal.items-returns-in_err-first
items-returns-in_err-first t c =
    rw c.from_residual.ensures (no_token _ _ _ _ _ c.loop-count.invariant c.in_err-first.ensures)

pub items-returns-then-count-least : goal.items-returns-then-count-least
items-returns-then-count-least t c = too_few _ _ _ _ _ c.loop-count.invariant _ _ _ c.in_ok-first.ensures c.in-Close.is c.if-count-least.true

pub items-item-requires : goal.items-item-requires
items-item-requires t c = (omega (arith, fewer _ _ _ _ c.loop-count.invariant, ap length c.in_ok-first.ensures), tt)

pub items-returns-in_err-rest : goal.items-returns-in_err-rest
items-returns-in_err-rest t c =
    rw c.from_residual-in_err-rest.ensures (no_item _ _ _ _ _ c.loop-count.invariant _ _ c.in_ok-first.ensures c.in_default.not-Close c.in_err-rest.ensures)

pub items-loop-count-preserved : goal.items-loop-count-preserved
items-loop-count-preserved t c =
    onward _ 0 _ _ _ c.loop-count.invariant _ _ _ c.in_ok-first.ensures c.in_ok-rest.ensures

pub items-returns : goal.items-returns
items-returns t c = too_many _ _ _ _ _ c.loop-count.invariant (omega arith)

pub term-returns-in_err-inner-in-Open : goal.term-returns-in_err-inner-in-Open
term-returns-in_err-inner-in-Open t c = rw c.from_residual.ensures (no_head _ _ _ c.in-Open.is c.in_err-inner-in-Open.ensures)

pub term-returns-in-Symbol : goal.term-returns-in-Symbol
term-returns-in-Symbol t c = elim c.in-Symbol.is [ inl s ↦ is_name _ _ _ _ s.2 | inr n ↦ is_numeral _ _ _ _ n.2 ]

pub term-returns-in_ok-inner-in-Open : goal.term-returns-in_ok-inner-in-Open
term-returns-in_ok-inner-in-Open t c =
    inside_cases _ _ _ c.in-Open.is _ _ _ c.in_ok-inner-in-Open.ensures c.items.result c.items.ensures

pub term-returns-in_default : goal.term-returns-in_default
term-returns-in_default t c = no_term _ _ c.in_default.not-Symbol c.in_default.not-Numeral c.in_default.not-Open
