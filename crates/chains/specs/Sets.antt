-- A set of literals as a list of 8,192 answers, and what the parts of the search say of it.
use Rattle.std.specs.Prelude.{◌≡◌, ℕ, suc, ◌+◌, ◌*◌, ◌<◌, ◌≤◌, Bool, true, false, cond, List, [], ◌∷◌, ◌≢◌, slice_index_or}
use Rattle.std.specs.List.{ContainsAt as Has, AllByRecursion}
use Rattle.entries.specs.declared.entry.Literal.{Literal}
use Rattle.entries.specs.Clauses.{complement_of}
use Rattle.chains.specs.Chain.{Derived, Refutes}
use Rattle.chains.specs.declared.outcome.Rest.{Rest}
use Rattle.chains.specs.declared.outcome.Rest.TheVariants as rest
use Rattle.chains.specs.declared.outcome.Outcome.{Outcome}
use Rattle.chains.specs.declared.outcome.Outcome.TheVariants as outcome

-- The place of a term's answer, for each sign.
abbrev pub place_at : Bool → ℕ → ℕ
place_at negative term = cond negative (term * 2 + 1) (term * 2)

-- The place of a literal's answer.
abbrev pub place_of : Literal → ℕ
place_of l = place_at l.negative l.term

-- Whether the literal is in the set.
abbrev pub holds : List Bool → Literal → Bool
holds set l = slice_index_or set (place_of l) false

-- The literal is in the set.
abbrev pub Holds : List Bool → Literal → Type 0
Holds set l = holds set l ≡ true

-- The terms of the literals have places in the set.
abbrev pub Placed : List Literal → Type 0
Placed c = AllByRecursion (λ (l : Literal). l.term < 4096) c

-- The literals of a premise, without u, have their complement in the set.
abbrev pub Others : List Literal → List Bool → Literal → Type 0
Others p set u = (m : Literal) → Has p m → (m ≢ u) → Holds set (complement_of m)

-- The literals of a premise all have their complement in the set.
abbrev pub AllOut : List Literal → List Bool → Type 0
AllOut p set = (m : Literal) → Has p m → Holds set (complement_of m)

-- All but u have.
pub record ButOne (p : List Literal) (set : List Bool) (u : Literal) : Type 0 where
  pub has : Has p u
  pub free : Holds set (complement_of u) → ⊥
  pub others : Others p set u

-- At least two have not.
pub record ButTwo (p : List Literal) (set : List Bool) : Type 0 where
  pub a : Literal
  pub b : Literal
  pub has_a : Has p a
  pub has_b : Has p b
  pub apart : a ≡ b → ⊥
  pub free_a : Holds set (complement_of a) → ⊥
  pub free_b : Holds set (complement_of b) → ⊥

-- What is left of a premise.
abbrev pub Left : List Literal → List Bool → Rest → Type 0
Left p set rest.Nothing = AllOut p set
Left p set (rest.One u) = ButOne p set u
Left p set rest.More = ButTwo p set

-- Each literal of the set is derived.
abbrev pub Sound : List Literal → List (List Literal) → List Bool → Type 0
Sound clause premises set = (l : Literal) → Holds set l → Derived clause premises l

-- No literal is in the set together with its complement.
abbrev pub Consistent : List Bool → Type 0
Consistent set = (l : Literal) → Holds set l → Holds set (complement_of l) → ⊥

-- How many literals are not in the set.
abbrev pub missing : List Bool → ℕ
missing [] = 0
missing (b ∷ bs) = cond b (missing bs) (suc (missing bs))

-- The premise adds nothing to the set.
pub record ClosedAt (set : List Bool) (p : List Literal) : Type 0 where
  pub some : p ≡ [] → ⊥
  pub closed : (l : Literal) → Has p l → Others p set l → Holds set l

-- The set has grown by what the premises force, and by nothing else.
pub record Onward (premises : List (List Literal)) (old new : List Bool) : Type 0 where
  pub keeps : (l : Literal) → Holds old l → Holds new l
  pub sound : (clause : List Literal) → Sound clause premises old → Sound clause premises new
  pub consistent : Consistent old → Consistent new
  pub fewer : missing new ≤ missing old

-- How a pass over the premises ended: each clause is refuted, the set has grown, or the set is closed.
abbrev pub Ended : List (List Literal) → List Bool → List Bool → Outcome → Type 0
Ended premises old new outcome.Conflict = (clause : List Literal) → Sound clause premises new → Refutes clause premises
Ended premises old new outcome.Grew = missing new < missing old
Ended premises old new outcome.Still = (p : List Literal) → Has premises p → ClosedAt new p

-- What a pass over the premises did.
pub record Passed (premises : List (List Literal)) (old new : List Bool) (o : Outcome) : Type 0 where
  pub onward : Onward premises old new
  pub ended : Ended premises old new o

-- The set holds the complements of the clause's literals and nothing else.
pub record Seeds (clause : List Literal) (set : List Bool) : Type 0 where
  pub all : (l : Literal) → Has clause (complement_of l) → Holds set l
  pub only : (l : Literal) → Holds set l → Has clause (complement_of l)
  pub consistent : Consistent set

-- Two literals of the clause are complements.
abbrev pub Clash : List Literal → Type 0
Clash clause = (l : Literal) × Has clause l × Has clause (complement_of l)
