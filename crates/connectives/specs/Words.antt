-- The rulings of the referee of the connectives in words, and that they are what it means.
use Rattle.std.specs.Prelude.{◌≡◌, ℕ, ◌<◌, List, [], ◌∷◌, length, Some, None, Option}
use Rattle.std.specs.List.{ContainsAt as Has, AllByRecursion}
use Rattle.entries.specs.declared.entry.Head.TheVariants as head
use Rattle.entries.specs.declared.entry.Literal.{Literal}
use Rattle.entries.specs.declared.entry.Sort.TheVariants as sort
use Rattle.entries.specs.declared.entry.Term.{Term}
use Rattle.meaning.specs.Proper.{term_at, sort_at}
use Rattle.referee.specs.declared.ruling.Ruling.{Ruling}
use Rattle.referee.specs.declared.ruling.Ruling.TheVariants.{Yes, Unmet, Arguments, Overflow}
use Rattle.referee.specs.Questions.{Asked}
use Rattle.connectives.specs.declared.table.Connective.{Connective}
use Rattle.connectives.specs.declared.table.Connective.TheVariants.{Any, True, False, And, Or, Implies, Equiv}
use Rattle.connectives.specs.declared.table.Part.TheVariants as part
use Rattle.connectives.specs.declared.table.Piece.{Piece}
use Rattle.connectives.specs.Rules.{clause_by, connectives}
use Rattle.connectives.specs.Table.{Rule, table}

-- The term t has the connective; for Equiv it is `=` on Bool. Any is every term but a `not`.
abbrev pub Connects : Connective → List Term → ℕ → Type 0
Connects Any terms t = (term_at terms t).head ≡ head.Not → ⊥
Connects True terms t = (term_at terms t).head ≡ head.True
Connects False terms t = (term_at terms t).head ≡ head.False
Connects And terms t = (term_at terms t).head ≡ head.And
Connects Or terms t = (term_at terms t).head ≡ head.Or
Connects Implies terms t = (term_at terms t).head ≡ head.Implies
Connects Equiv terms t = ((term_at terms t).head ≡ head.Equal) × AllByRecursion (λ n. sort_at terms n ≡ sort.Bool) (term_at terms t).args

-- Two clauses are one set: each has the literals of the other.
pub record SameLiterals (c d : List Literal) : Type 0 where
  pub there : (l : Literal) → Has c l → Has d l
  pub back : (l : Literal) → Has d l → Has c l

-- The premises are what a rule takes: none, or a single one that is, as a set, the one literal.
abbrev pub Takes : List Term → ℕ → ℕ → Option Piece → List (List Literal) → Type 0
Takes terms t i None premises = premises ≡ []
Takes terms t i (Some p) premises = (c : List Literal) × (premises ≡ c ∷ []) × SameLiterals c (clause_by terms t i (p ∷ []))

-- φᵢ is one of the letters.
abbrev pub Picks : List Piece → Type 0
Picks ps = (p : Piece) × Has ps p × (p.part ≡ part.Picked)

-- A step meets a rule, with T the term t and φᵢ its argument i, counted from 0.
pub record Meets (q : Asked) (r : Rule) (t i : ℕ) : Type 0 where
  pub stands : t < length q.terms
  pub connects : Connects r.connective q.terms t
  pub picked : Picks r.clause → i < length (term_at q.terms t).args
  pub premises : Takes q.terms t i r.premise q.premises
  pub clause : SameLiterals q.clause (clause_by q.terms t i r.clause)

-- The rule is a row of the table and has the name that the step gives.
pub record IsRule (q : Asked) (r : Rule) : Type 0 where
  pub row : Has table r
  pub name : r.name ≡ q.rule

-- The step's name is that of a rule.
abbrev pub Known : Asked → Type 0
Known q = (r : Rule) × IsRule q r

-- The step has no arguments, and meets the rule that it names, for some T and some φᵢ.
abbrev pub Keeps : Asked → Type 0
Keeps q = (q.args ≡ []) × ((r : Rule) × IsRule q r × ((t i : ℕ) × Meets q r t i))

-- What each ruling says of a step.
abbrev pub Deserves : Asked → Ruling → Type 0
Deserves q Yes = Keeps q
Deserves q Arguments = Known q × (0 < length q.args)
Deserves q Unmet = (Keeps q → ⊥) × (Known q → q.args ≡ [])
Deserves q Overflow = ⊥

-- Each step deserves the ruling that it gets.
abbrev pub Exact : Type 0
Exact = (q : Asked) → Deserves q (connectives.judge q)

-- No step deserves two rulings, so that it gets each exactly where it deserves it.
abbrev pub Single : Type 0
Single = (q : Asked) (x y : Ruling) → Deserves q x → Deserves q y → x ≡ y
