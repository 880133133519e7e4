use Rattle.text.proofs.Digits.{Read}
use Rattle.text.proofs.token.numeral.Given as goal

abbrev pub invariant-loop-b : goal.invariant-loop-b
invariant-loop-b l = Read l.run l.b-index l.value
