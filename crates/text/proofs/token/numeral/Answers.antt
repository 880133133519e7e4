use Rattle.std.proofs.Common.{rules}
use Rattle.text.proofs.Digits.{large}
use Rattle.text.proofs.token.numeral.Goals as goal

pub returns-then-value-gt-LARGEST : goal.returns-then-value-gt-LARGEST
returns-then-value-gt-LARGEST c = search (rules, large)
