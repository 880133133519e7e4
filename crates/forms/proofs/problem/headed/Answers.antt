use Rattle.std.proofs.Common.{◌≡◌, length, codes, ap, arith, rules}
use Rattle.std.proofs.lemmas.Slice.Eq.{text_from_reads}
use Rattle.forms.proofs.Heads.{no_entry, is_assert, is_set_logic, is_declare_fun, is_declare_sort}
use Rattle.forms.proofs.problem.headed.Goals as goal

pub returns-in-assert : goal.returns-in-assert
returns-in-assert c =
    let word : c.args.head.now ≡ codes "assert" = search (rules, text_from_reads) in is_assert _ _ word _ c.assert.ensures

pub returns-in-115 : goal.returns-in-115
returns-in-115 c =
    let word : c.args.head.now ≡ codes "set-logic" = search (rules, text_from_reads) in is_set_logic _ _ word _ c.set_logic.ensures

pub returns-in-100 : goal.returns-in-100
returns-in-100 c =
    let word : c.args.head.now ≡ codes "declare-fun" = text_from_reads _ _ (omega arith) (search rules) in is_declare_fun _ _ word _ c.declare_fun.ensures

pub returns-in-100-2 : goal.returns-in-100-2
returns-in-100-2 c =
    let word : c.args.head.now ≡ codes "declare-sort" = text_from_reads _ _ (omega arith) (search rules) in is_declare_sort _ _ word _ c.declare_sort.ensures

pub returns-in_default : goal.returns-in_default
returns-in_default c =
    λ at place p fit e.
    no_entry at place _ _ p (λ w. let l = ap length w in grind arith) (λ w. let l = ap length w in grind arith) (λ w. let l = ap length w in grind arith) (λ w. let l = ap length w in grind arith) e
