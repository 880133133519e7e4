-- Literals and clauses.
use Rattle.std.specs.Prelude.{Bool, cond, not, List, [], ◌∷◌, ◌++◌, fold}
use Rattle.std.specs.List.{list_any}
use Rattle.entries.specs.declared.entry.Literal.{Literal}
use Rattle.entries.specs.Equality.{same_literal}

-- The complement has the other sign.
abbrev pub complement_of : Literal → Literal
complement_of l = record { negative = not l.negative; term = l.term }

-- Whether a literal is one of a clause.
abbrev pub holds_literal : List Literal → Literal → Bool
holds_literal c l = list_any (λ m. same_literal m l) c

-- A clause with one more literal: a repeat is dropped.
abbrev pub with : List Literal → Literal → List Literal
with c l = cond (holds_literal c l) c (c ++ l ∷ [])

-- The clause of literals in written order: later repeats are dropped.
abbrev pub clause_from : List Literal → List Literal
clause_from ls = fold with [] ls
