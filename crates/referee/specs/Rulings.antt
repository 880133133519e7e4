-- The numbers of rulings, and their words.
use Rattle.std.specs.Prelude.{ℕ, List, Some, None, Option, codes}
use Rattle.referee.specs.declared.ruling.Ruling.{Ruling}
use Rattle.referee.specs.declared.ruling.Ruling.TheVariants.{Yes, Unmet, Arguments, Overflow}

-- The number of the refusal that a ruling is, if it is one.
abbrev pub number_of : Ruling → Option ℕ
number_of Yes = None
number_of Unmet = Some 50
number_of Arguments = Some 51
number_of Overflow = Some 52

-- What people read of a ruling.
abbrev pub message_of : Ruling → List ℕ
message_of Yes = codes "the step keeps its rule"
message_of Unmet = codes "the step does not keep its rule"
message_of Arguments = codes "arguments that the rule does not take"
message_of Overflow = codes "a number beyond 1,000,000,000 in a linear form"
