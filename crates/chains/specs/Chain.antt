-- What follows from clauses by a chain of resolution: over clauses of any length, any number of them.
use Rattle.std.specs.Prelude.{◌⊎◌, List, [], ◌≢◌}
use Rattle.std.specs.List.{ContainsAt as Has}
use Rattle.entries.specs.declared.entry.Literal.{Literal}
use Rattle.entries.specs.Clauses.{complement_of}

-- The least set of literals that holds the complements of the clause's literals (`denied`) and that is closed thus: where the
-- other literals of a premise all have their complement in the set, the remaining one is in it (`forced`).
pub data Derived (clause : List Literal) (premises : List (List Literal)) : Literal → Type 0 where
  denied : {l : Literal} → Has clause (complement_of l) → Derived clause premises l
  forced :
      {p : List Literal} {l : Literal} → Has premises p → Has p l →
      ((m : Literal) → Has p m → (m ≢ l) → Derived clause premises (complement_of m)) → Derived clause premises l

-- The set holds a literal and its complement, or a premise is empty: the premises and the denied clause cannot all be true.
abbrev pub Refutes : List Literal → List (List Literal) → Type 0
Refutes clause premises =
    ((l : Literal) × Derived clause premises l × Derived clause premises (complement_of l)) ⊎ Has premises []
