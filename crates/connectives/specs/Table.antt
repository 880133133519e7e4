-- The rules of the connectives, a row for each.
use Rattle.std.specs.Prelude.{ℕ, false, not, List, [], ◌∷◌, Some, None, codes, find, Option}
use Prim.Native.String.{String}
use Rattle.std.specs.Str.{bytes_eq}
use Rattle.connectives.specs.declared.table.Connective.{Connective}
use Rattle.connectives.specs.declared.table.Connective.TheVariants.{Any, True, False, And, Or, Implies, Equiv}
use Rattle.connectives.specs.declared.table.Part.{Part}
use Rattle.connectives.specs.declared.table.Part.TheVariants as part
use Rattle.connectives.specs.declared.table.Piece.{Piece}

-- A letter without a sign.
abbrev pub letter : Part → Piece
letter p = record { negative = false; part = p }

-- The term with the rule's connective.
abbrev pub T : Piece
T = letter part.Whole

-- The term of a rule that names no connective.
abbrev pub φ : Piece
φ = letter part.Whole

-- The argument of T that a step picks.
abbrev pub φᵢ : Piece
φᵢ = letter part.Picked

-- All arguments of T.
abbrev pub φs : Piece
φs = letter part.All

-- The first argument of T.
abbrev pub a : Piece
a = letter part.First

-- The second argument of T.
abbrev pub b : Piece
b = letter part.Second

-- The complement of what a letter stands for.
infix 70 ¬◌
abbrev pub ¬◌ : Piece → Piece
¬ p = record { negative = not p.negative; part = p.part }

-- A rule: its name, the connective of T, the one literal of its premise if it takes a premise, and the literals of its clause.
pub record Rule : Type 0 where
  pub name : List ℕ
  pub connective : Connective
  pub premise : Option Piece
  pub clause : List Piece

-- A row of the table.
abbrev pub row : String → Connective → Option Piece → List Piece → Rule
row name connective premise clause = record { name = codes name; connective = connective; premise = premise; clause = clause }

-- The rules.
unfoldable pub table : List Rule
table =
    -- no premise
    row "true" True None (T ∷ []) ∷
    row "false" False None (¬ T ∷ []) ∷
    row "not_not" Any None (¬ φ ∷ φ ∷ []) ∷
    row "and_pos" And None (¬ T ∷ φᵢ ∷ []) ∷
    row "and_neg" And None (T ∷ ¬ φs ∷ []) ∷
    row "or_pos" Or None (¬ T ∷ φs ∷ []) ∷
    row "or_neg" Or None (T ∷ ¬ φᵢ ∷ []) ∷
    row "implies_pos" Implies None (¬ T ∷ ¬ a ∷ b ∷ []) ∷
    row "implies_neg1" Implies None (T ∷ a ∷ []) ∷
    row "implies_neg2" Implies None (T ∷ ¬ b ∷ []) ∷
    row "equiv_pos1" Equiv None (¬ T ∷ a ∷ ¬ b ∷ []) ∷
    row "equiv_pos2" Equiv None (¬ T ∷ ¬ a ∷ b ∷ []) ∷
    row "equiv_neg1" Equiv None (T ∷ ¬ a ∷ ¬ b ∷ []) ∷
    row "equiv_neg2" Equiv None (T ∷ a ∷ b ∷ []) ∷
    -- the premise {T}
    row "and" And (Some T) (φᵢ ∷ []) ∷
    row "or" Or (Some T) (φs ∷ []) ∷
    row "implies" Implies (Some T) (¬ a ∷ b ∷ []) ∷
    row "equiv1" Equiv (Some T) (¬ a ∷ b ∷ []) ∷
    row "equiv2" Equiv (Some T) (a ∷ ¬ b ∷ []) ∷
    -- the premise {¬T}
    row "not_or" Or (Some (¬ T)) (¬ φᵢ ∷ []) ∷
    row "not_and" And (Some (¬ T)) (¬ φs ∷ []) ∷
    row "not_implies1" Implies (Some (¬ T)) (a ∷ []) ∷
    row "not_implies2" Implies (Some (¬ T)) (¬ b ∷ []) ∷
    row "not_equiv1" Equiv (Some (¬ T)) (a ∷ b ∷ []) ∷
    row "not_equiv2" Equiv (Some (¬ T)) (¬ a ∷ ¬ b ∷ []) ∷
    []

-- The first of some rules that has a name.
abbrev pub named : List Rule → List ℕ → Option Rule
named rs name = find (λ (r : Rule). bytes_eq name r.name) rs

-- The rule with a name, if there is one.
abbrev pub rule_named : List ℕ → Option Rule
rule_named name = named table name
