-- What the referee for the rules of equality means.
use Rattle.std.specs.Prelude.{Bool, true, false, cond, ◌&&◌, List, [], ◌∷◌, length, is_some, Some, None, Option, nat_lt}
use Rattle.referee.specs.declared.ruling.Ruling.{Ruling}
use Rattle.referee.specs.declared.ruling.Ruling.TheVariants.{Yes, Unmet, Arguments}
use Rattle.referee.specs.Meaning.{Meaning}
use Rattle.referee.specs.Questions.{Asked}
use Rattle.equality.specs.declared.rule.Rule.{Rule}
use Rattle.equality.specs.declared.rule.Rule.TheVariants.{Reflexive, Transitive, Congruent, Trans, Cong}
use Rattle.equality.specs.Names.{rule_named}
use Rattle.equality.specs.Rules.{reflexive, transitive, congruent, joined, applied}

-- Whether a list is empty.
abbrev pub none : {X : Type 0} → List X → Bool
none [] = true
none (x ∷ xs) = false

-- Whether a step meets a rule, its arguments aside.
abbrev pub meets_rule : Rule → Asked → Bool
meets_rule Reflexive q = none q.premises && reflexive q.terms q.clause
meets_rule Transitive q = none q.premises && transitive q.terms q.clause
meets_rule Congruent q = none q.premises && congruent q.terms q.clause
meets_rule Trans q = joined q.terms q.clause q.premises
meets_rule Cong q = applied q.terms q.clause q.premises

-- The ruling on a step with a known rule: no rule of equality takes arguments.
abbrev pub ruled_by : Rule → Asked → Ruling
ruled_by r q = cond (nat_lt 0 (length q.args)) Arguments (cond (meets_rule r q) Yes Unmet)

-- A name that is no rule's is a rule that is not met.
abbrev pub ruled : Option Rule → Asked → Ruling
ruled None q = Unmet
ruled (Some r) q = ruled_by r q

-- Knows the names of the rules, and rules by them.
abbrev pub equality : Meaning
equality = record { knows = λ name. is_some (rule_named name); judge = λ q. ruled (rule_named q.rule) q }
