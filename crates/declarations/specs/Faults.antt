-- The faults of the term layer: their numbers, places and words.
use Rattle.std.specs.Prelude.{ℕ, List, codes}
use Rattle.declarations.specs.declared.fault.TermFault.{TermFault}
use Rattle.declarations.specs.declared.fault.TermFault.TheVariants.{Unknown, Taken, Misfit, Full}

-- The number that people see for a fault.
abbrev pub number_of : TermFault → ℕ
number_of (Unknown at) = 30
number_of (Taken at) = 31
number_of (Misfit at) = 32
number_of (Full at) = 33

-- The place of a fault.
abbrev pub place_of : TermFault → ℕ
place_of (Unknown at) = at
place_of (Taken at) = at
place_of (Misfit at) = at
place_of (Full at) = at

-- What people read of a fault.
abbrev pub message_of : TermFault → List ℕ
message_of (Unknown at) = codes "a word that is not declared"
message_of (Taken at) = codes "a word that has a meaning already"
message_of (Misfit at) = codes "a term with arguments or a sort that do not fit"
message_of (Full at) = codes "no room for one more in the list"
