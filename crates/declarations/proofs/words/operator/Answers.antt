use Rattle.std.proofs.Common.{◌≡◌, codes, rules, sym, ap, arith}
use Rattle.std.proofs.lemmas.Slice.Eq.{text_from_reads}
use Rattle.declarations.specs.Words.{operators, operator_of}
use Rattle.declarations.proofs.words.operator.Goals as goal

pub returns-in-true : goal.returns-in-true
unfolding operators
returns-in-true c =
    let e : c.args.word.now ≡ codes "true" = text_from_reads _ _ (omega arith) (search rules) in
    sym (ap operator_of e)

pub returns-in-false : goal.returns-in-false
unfolding operators
returns-in-false c =
    let e : c.args.word.now ≡ codes "false" = text_from_reads _ _ (omega arith) (search rules) in
    sym (ap operator_of e)
