-- Terms are kept once each: a term is found in the list, or goes to its end where there is room.
use Rattle.std.specs.Prelude.{◌≡◌, ℕ, ◌≤◌, min, cond, List, [], ◌∷◌, ◌++◌, length, take, Some, None, Option, nat_lt, position}
use Rattle.entries.specs.declared.entry.Term.{Term}
use Rattle.entries.specs.Equality.{same_term}
use Rattle.entries.specs.First.{First}

-- How many entries a list has room for: its limit, or what its memory holds.
abbrev pub room : {X : Type 0} → ℕ → List X → ℕ
room limit memory = min limit (length memory)

-- A term goes to the end.
abbrev pub at_end : ℕ → List Term → Term → Option ℕ × List Term
at_end most ts t = cond (nat_lt (length ts) most) (Some (length ts), ts ++ t ∷ []) (None, ts)

-- A term that is found at a place stays there.
abbrev pub filed_at : ℕ → List Term → Term → Option ℕ → Option ℕ × List Term
filed_at most ts t (Some i) = (Some i, ts)
filed_at most ts t None = at_end most ts t

-- Where a term stands after it is filed, and the list then; no place where the list is full.
abbrev pub file : ℕ → List Term → Term → Option ℕ × List Term
file most ts t = filed_at most ts t (position (λ u. same_term u t) ts)

-- What filing a term among the first n places of a memory answers, and what the first n' places then hold.
abbrev pub Files : List Term → ℕ → Term → Option ℕ → List Term → ℕ → Type 0
Files memory n t r memory' n' = (r, take n' memory') ≡ file (room 4096 memory) (take n memory) t

-- What that means: the place is the first at which the term stands in the list; where there is none, the list is full.
abbrev pub Filed : ℕ → Term → Option ℕ → List Term → Type 0
Filed most t (Some i) ts = First (λ u. u ≡ t) ts (Some i)
Filed most t None ts = First (λ u. u ≡ t) ts None × (most ≤ length ts)
