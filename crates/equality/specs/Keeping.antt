-- The referee says yes exactly to the steps that keep their rule.
use Rattle.std.specs.Prelude.{◌≡◌, Bool, true, false, cond, [], length, Some, None, Option, nat_lt, refl}
use Rattle.std.proofs.Common.{ap, ◌∙◌, arith}
use Rattle.std.proofs.lemmas.List.{nil_from_length}
use Rattle.std.proofs.lemmas.Bool.{ltb-false, false≢true}
use Rattle.referee.specs.declared.ruling.Ruling.TheVariants.{Yes, Unmet, Arguments}
use Rattle.referee.specs.Questions.{Asked}
use Rattle.equality.specs.declared.rule.Rule.{Rule}
use Rattle.equality.specs.Meaning.{meets_rule, ruled}
use Rattle.equality.specs.Names.{rule_named}
use Rattle.equality.specs.Words.{is_yes, YesToKept}
use Rattle.equality.specs.Tested.{rules_tested}

parts : (a m : Bool) → is_yes (cond a Arguments (cond m Yes Unmet)) ≡ true → (a ≡ false) × (m ≡ true)
parts true m e = absurd (false≢true e)
parts false true e = (refl, refl)
parts false false e = absurd (false≢true e)

yes_by : (q : Asked) (o : Option Rule) → is_yes (ruled o q) ≡ true → (r : Rule) × (o ≡ Some r) × (q.args ≡ []) × (meets_rule r q ≡ true)
yes_by q None e = absurd (false≢true e)
yes_by q (Some r) e =
    let both = parts (nat_lt 0 (length q.args)) (meets_rule r q) e in
    let few = ltb-false 0 (length q.args) both.0 in
    (r, refl, nil_from_length q.args (omega (arith, few)), both.1)

yes_of : (q : Asked) (o : Option Rule) (r : Rule) → o ≡ Some r → q.args ≡ [] → meets_rule r q ≡ true → is_yes (ruled o q) ≡ true
yes_of q o r is plain met =
    ap (λ z. is_yes (ruled z q)) is
    ∙ ap (λ xs. is_yes (cond (nat_lt 0 (length xs)) Arguments (cond (meets_rule r q) Yes Unmet))) plain
    ∙ ap (λ b. is_yes (cond b Yes Unmet)) met

pub yes_to_kept : YesToKept
yes_to_kept q = (
  (λ e.
      let w = yes_by q (rule_named q.rule) e in
      record { rule = w.0; named = w.1; plain = w.2; meets = (rules_tested w.0 q).0 w.3 }),
  (λ k. yes_of q (rule_named q.rule) k.rule k.named k.plain ((rules_tested k.rule q).1 k.meets)),
)
