-- The least set of literals, worked out in rounds.
use Rattle.std.specs.Prelude.{ℕ, zero, suc, Bool, true, false, not, ◌&&◌, ◌||◌, List, [], ◌∷◌, ◌++◌, map, length, filter}
use Rattle.std.specs.List.{flat_map, list_any, list_all}
use Rattle.entries.specs.declared.entry.Literal.{Literal}
use Rattle.entries.specs.Clauses.{complement_of, holds_literal}
use Rattle.entries.specs.Equality.{same_literal}

-- A premise forces a literal of its own where each other one has its complement among the known.
abbrev pub forces : List Literal → Literal → List Literal → Bool
forces known l p = holds_literal p l && list_all (λ m. same_literal m l || holds_literal known (complement_of m)) p

-- The literals of all premises.
abbrev pub literals_in : List (List Literal) → List Literal
literals_in premises = flat_map (λ (p : List Literal). p) premises

-- Those that some premise forces, and that are not known.
abbrev pub fresh : List (List Literal) → List Literal → List Literal
fresh premises known = filter (λ l. not (holds_literal known l) && list_any (forces known l) premises) (literals_in premises)

-- What is known after some more rounds: each adds what is fresh.
abbrev pub after : List (List Literal) → ℕ → List Literal → List Literal
after premises zero known = known
after premises (suc rounds) known = after premises rounds (fresh premises known ++ known)

-- So many rounds are enough: one for each literal of the premises.
abbrev pub enough : List (List Literal) → ℕ
enough premises = length (literals_in premises)

-- What is known in the end: at first the complements of the clause's literals are.
abbrev pub closure : List Literal → List (List Literal) → List Literal
closure clause premises = after premises (enough premises) (map complement_of clause)

-- A literal and its complement are known.
abbrev pub clashes : List Literal → Bool
clashes known = list_any (λ l. holds_literal known (complement_of l)) known

abbrev pub is_empty : List Literal → Bool
is_empty [] = true
is_empty (l ∷ ls) = false

-- Whether the clause follows from the premises by a chain.
abbrev pub refutes : List Literal → List (List Literal) → Bool
refutes clause premises = clashes (closure clause premises) || list_any is_empty premises
