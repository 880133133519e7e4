-- Where the code looks for T.
use Rattle.std.specs.Prelude.{Bool, true, false, List, [], ◌∷◌, Some, None, Option}
use Rattle.std.specs.List.{list_any}
use Rattle.entries.specs.declared.entry.Literal.{Literal}
use Rattle.connectives.specs.declared.table.Part.{Part}
use Rattle.connectives.specs.declared.table.Part.TheVariants as part
use Rattle.connectives.specs.declared.table.Piece.{Piece}
use Rattle.connectives.specs.declared.table.Rule.{Rule as CodeRule}
use Rattle.connectives.specs.Table.{Rule}

-- A rule of the code's table.
abbrev pub seen : CodeRule → Rule
seen r = record { name = r.name.now; connective = r.connective; premise = r.premise; clause = r.clause.now }

-- Where T is looked for: in the first premise, or in the clause where there is none.
abbrev pub seat_of : List Literal → List (List Literal) → List Literal
seat_of clause [] = clause
seat_of clause (c ∷ cs) = c

-- Whether a letter stands for T.
abbrev pub is_whole : Part → Bool
is_whole part.Whole = true
is_whole part.Picked = false
is_whole part.All = false
is_whole part.First = false
is_whole part.Second = false

-- T stands in the premise, or in the clause of a rule that takes none, so that a search there finds it.
abbrev pub shows_in : Option Piece → List Piece → Bool
shows_in None ps = list_any (λ (p : Piece). is_whole p.part) ps
shows_in (Some p) ps = is_whole p.part

-- The same of a rule.
abbrev pub shows : Rule → Bool
shows r = shows_in r.premise r.clause
