-- When a step keeps a rule, as a test, and what the referee of the connectives means.
use Rattle.std.specs.Prelude.{ℕ, Bool, true, false, cond, not, ◌&&◌, List, [], ◌∷◌, map, length, take, drop, Some, None, Option, nat_lt}
use Rattle.std.specs.List.{flat_map, list_any, list_all, range_with_len}
use Rattle.entries.specs.declared.entry.Head.{Head}
use Rattle.entries.specs.declared.entry.Head.TheVariants as head
use Rattle.entries.specs.declared.entry.Literal.{Literal}
use Rattle.entries.specs.declared.entry.Sort.TheVariants as sort
use Rattle.entries.specs.declared.entry.Term.{Term}
use Rattle.entries.specs.Clauses.{complement_of}
use Rattle.entries.specs.Equality.{same_kind, same_sort}
use Rattle.meaning.specs.Proper.{term_at, sort_at}
use Rattle.meaning.specs.Truth.{literal_of}
use Rattle.referee.specs.declared.ruling.Ruling.{Ruling}
use Rattle.referee.specs.declared.ruling.Ruling.TheVariants.{Yes, Unmet, Arguments}
use Rattle.referee.specs.Meaning.{Meaning}
use Rattle.referee.specs.Questions.{Asked}
use Rattle.referee.specs.Sets.{same_set}
use Rattle.connectives.specs.declared.table.Connective.{Connective}
use Rattle.connectives.specs.declared.table.Connective.TheVariants.{Any, True, False, And, Or, Implies, Equiv}
use Rattle.connectives.specs.declared.table.Part.{Part}
use Rattle.connectives.specs.declared.table.Part.TheVariants as part
use Rattle.connectives.specs.declared.table.Piece.{Piece}
use Rattle.connectives.specs.Table.{Rule, rule_named}

-- ---- what the letters stand for, where T is the term t and φᵢ its argument i, counted from 0

-- The terms that a letter stands for; args are the arguments of T.
abbrev pub stands_for : Part → ℕ → ℕ → List ℕ → List ℕ
stands_for part.Whole t i args = t ∷ []
stands_for part.Picked t i args = take 1 (drop i args)
stands_for part.All t i args = args
stands_for part.First t i args = take 1 args
stands_for part.Second t i args = take 1 (drop 1 args)

-- A literal, or under a negative sign its complement.
abbrev pub turned_by : Bool → Literal → Literal
turned_by negative l = cond negative (complement_of l) l

-- The literals of these terms, or their complements.
abbrev pub piece_literals : List Term → ℕ → ℕ → Piece → List Literal
piece_literals terms t i p = map (λ n. turned_by p.negative (literal_of terms n)) (stands_for p.part t i (term_at terms t).args)

-- The clause that letters stand for.
abbrev pub clause_by : List Term → ℕ → ℕ → List Piece → List Literal
clause_by terms t i ps = flat_map (piece_literals terms t i) ps

-- ---- which T and which i a rule takes

-- Whether a head is the connective's. A rule that names no connective takes all but `not`, which no literal's term begins with.
abbrev pub begins : Connective → Head → Bool
begins Any h = not (same_kind h head.Not)
begins True h = same_kind h head.True
begins False h = same_kind h head.False
begins And h = same_kind h head.And
begins Or h = same_kind h head.Or
begins Implies h = same_kind h head.Implies
begins Equiv h = same_kind h head.Equal

-- Whether `=` joins Bool terms, where it is to be a connective.
abbrev pub joins_bool : Connective → List Term → List ℕ → Bool
joins_bool Any terms args = true
joins_bool True terms args = true
joins_bool False terms args = true
joins_bool And terms args = true
joins_bool Or terms args = true
joins_bool Implies terms args = true
joins_bool Equiv terms args = list_all (λ n. same_sort (sort_at terms n) sort.Bool) args

-- Whether the term t has the connective.
abbrev pub connects : Connective → List Term → ℕ → Bool
connects k terms t = begins k (term_at terms t).head && joins_bool k terms (term_at terms t).args

-- Whether a letter stands for the argument that a step picks.
abbrev pub is_picked : Part → Bool
is_picked part.Whole = false
is_picked part.Picked = true
is_picked part.All = false
is_picked part.First = false
is_picked part.Second = false

-- How many i there are to choose from: one for each argument where the letters have φᵢ, a single one elsewhere.
abbrev pub choices : List Piece → List ℕ → ℕ
choices ps args = cond (list_any (λ (p : Piece). is_picked p.part) ps) (length args) 1

-- ---- when a step keeps a rule

-- Whether a test holds of some number below a bound.
abbrev pub some_below : ℕ → (ℕ → Bool) → Bool
some_below n f = list_any f (range_with_len 0 n)

-- Whether the premises are what the rule takes: none, or one that has just the literal.
abbrev pub takes : List Term → ℕ → ℕ → Option Piece → List (List Literal) → Bool
takes terms t i None [] = true
takes terms t i None (c ∷ cs) = false
takes terms t i (Some p) [] = false
takes terms t i (Some p) (c ∷ []) = same_set c (clause_by terms t i (p ∷ []))
takes terms t i (Some p) (c ∷ d ∷ cs) = false

-- Whether premises and clause are the rule's for t and i.
abbrev pub meets_at : Asked → Rule → ℕ → ℕ → Bool
meets_at q r t i = takes q.terms t i r.premise q.premises && same_set q.clause (clause_by q.terms t i r.clause)

-- Whether they are for t and some i.
abbrev pub fits_as : Asked → Rule → ℕ → Bool
fits_as q r t = connects r.connective q.terms t && some_below (choices r.clause (term_at q.terms t).args) (meets_at q r t)

-- Whether they are for some term of the list.
abbrev pub meets : Asked → Rule → Bool
meets q r = some_below (length q.terms) (fits_as q r)

-- ---- the referee

-- Whether there is a rule.
abbrev pub is_rule : Option Rule → Bool
is_rule None = false
is_rule (Some r) = true

-- The ruling by a rule, which takes no arguments. Under an unknown name no rule is met.
abbrev pub judged_by : Option Rule → Asked → Ruling
judged_by None q = Unmet
judged_by (Some r) q = cond (nat_lt 0 (length q.args)) Arguments (cond (meets q r) Yes Unmet)

-- The referee knows the names of the table, and judges by the rule with the name.
abbrev pub connectives : Meaning
connectives = record { knows = λ name. is_rule (rule_named name); judge = λ q. judged_by (rule_named q.rule) q }
