use Rattle.std.proofs.Common.{◌+◌, List, ◌∷◌, length, sym, ap, ◌∙◌, subst, arith}
use Rattle.std.proofs.lemmas.List.{length-append}
use Rattle.std.proofs.lemmas.Result.{err_from_is_err_and}
use Rattle.entries.specs.declared.entry.Sort.{Sort}
use Rattle.text.specs.Reading.{left}
use Rattle.text.specs.Tokens.{closes}
use Rattle.declarations.proofs.Signatures.{Left, begun, ended, filled, unknown, onward}
use Rattle.declarations.proofs.signature.sorts_of.Goals as goal
use Rattle.declarations.proofs.signature.sorts_of.Goals.{else-loop-test, then-loop-test+in_default}

pub loop-init : goal.loop-init
loop-init c = record {
  many = ap length c.empty-sorts.ensures;
  left_of = λ ts end rest few fits e.
      subst (λ (sofar : List Sort). Left c.args.known.now.sorts.now ts (closes end ∷ rest) 0 sofar (left c.args.reader)) (sym c.empty-sorts.ensures)
      (begun c.args.known.now.sorts.now ts (closes end ∷ rest) (left c.args.reader) fits e);
}

pub returns-in_err-sort_of : goal.returns-in_err-sort_of
returns-in_err-sort_of c ts end rest few fits e =
    let p = err_from_is_err_and c.from_residual.result c.from_residual.ensures.1 in
    rw (p.1, p.2)
    (unknown c.args.known.now.sorts.now ts end rest c.loop.counter _ _ (c.loop.invariant.left_of ts end rest few fits e)
    c.in-Some.word.at c.in-Some.word.text.now _ c.in-Some.ensures _ c.in_err-sort_of.ensures)

pub loop-preserved : goal.loop-preserved
loop-preserved c = record {
  many = ap length c.push.ensures ∙ length-append c.loop.sorts _ ∙ ap (λ n. n + 1) c.loop.invariant.many;
  left_of = λ ts end rest few fits e.
      subst (λ (sofar : List Sort). Left c.args.known.now.sorts.now ts (closes end ∷ rest) (c.loop.counter + 1) sofar (left c.in-Some.after))
      (sym c.push.ensures)
      (onward c.args.known.now.sorts.now ts end rest c.loop.counter c.loop.sorts _ (c.loop.invariant.left_of ts end rest few fits e)
      c.in-Some.word.at c.in-Some.word.text.now _ c.in-Some.ensures _ c.in_ok-sort_of.ensures);
}

pub returns : goal.returns
returns c ts end rest few fits e =
    let sorts = c.args.known.now.sorts.now in
    let h = c.loop.invariant.left_of ts end rest few fits e in
    elim c.loop-test.branch [
      | else-loop-test w ↦ filled sorts ts end rest c.loop.counter _ _ h (omega arith)
      | then-loop-test+in_default w ↦ ended sorts ts end rest c.loop.counter _ _ h w.in_default.ensures
    ]
