use Rattle.std.proofs.Common.{refl}
use Rattle.forms.specs.Parsed.{named}
use Rattle.forms.proofs.Lists.{after_list}
use Rattle.forms.proofs.Spelling.{tails}
use Rattle.forms.proofs.problem.declare_fun.Goals as goal

pub returns-in_err-gives : goal.returns-in_err-gives
returns-in_err-gives c =
    rw c.from_residual-in_err-gives.ensures
    (λ t fit e. let list = tails c.in_ok-takes.ensures (tails c.in_ok-function.ensures e) in
    c.in_err-gives.ensures t.gives.at t.gives.bytes _ (after_list _ _ _ _ c.in_ok-result.ensures t.takes t.right _ list))

pub returns-in_err-closing : goal.returns-in_err-closing
returns-in_err-closing c =
    rw c.from_residual-in_err-closing.ensures
    (λ t fit e. let list = tails c.in_ok-takes.ensures (tails c.in_ok-function.ensures e) in
    let result = after_list _ _ _ _ c.in_ok-result.ensures t.takes t.right _ list in
    c.in_err-closing.ensures t.end (tails c.in_ok-gives.ensures result))

pub returns : goal.returns
returns c =
    let name = c.in_ok-function.ensures in
    let at = c.in_ok-takes.ensures in
    let list = c.in_ok-result.ensures in
    let spelt = list.spelt in
    let gives = c.in_ok-gives.ensures in
    let end = c.in_ok-closing.ensures in
    (record { function = named c.in_ok-function.function; at = c.in_ok-takes.takes; takes = list.trees; right = list.end; gives = named c.in_ok-gives.gives; end = c.in_ok-closing.field-0 }, (list.few, list.fits), cc, refl)
