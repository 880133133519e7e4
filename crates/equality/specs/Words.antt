-- The rules of equality in words: what each of them takes.
use Rattle.entries.specs.declared.entry.Term.{Term}
use Rattle.std.specs.Prelude.{◌≡◌, ℕ, ◌<◌, Bool, true, false, ◌⊎◌, List, [], ◌∷◌, ◌++◌, length, Some, Decides}
use Rattle.std.specs.List.{ContainsAt as Has}
use Rattle.entries.specs.declared.entry.Head.TheVariants as head
use Rattle.entries.specs.declared.entry.Literal.{Literal}
use Rattle.meaning.specs.Proper.{term_at}
use Rattle.referee.specs.declared.ruling.Ruling.{Ruling}
use Rattle.referee.specs.declared.ruling.Ruling.TheVariants.{Yes, Unmet, Arguments, Overflow}
use Rattle.referee.specs.Questions.{Asked}
use Rattle.equality.specs.declared.rule.Rule.{Rule}
use Rattle.equality.specs.declared.rule.Rule.TheVariants.{Reflexive, Transitive, Congruent, Trans, Cong}
use Rattle.equality.specs.declared.sides.Sides.{Sides}
use Rattle.equality.specs.Heads.{is_operation}
use Rattle.equality.specs.Meaning.{meets_rule, equality}
use Rattle.equality.specs.Names.{rule_named}
use Rattle.equality.specs.Rules.{pairs}

-- The literal l is s = t; where `negative` is true it is ¬(s = t).
pub record Equates (terms : List Term) (negative : Bool) (l : Literal) (s t : ℕ) : Type 0 where
  pub sign : l.negative ≡ negative
  pub equal : (term_at terms l.term).head ≡ head.Equal
  pub between : (term_at terms l.term).args ≡ s ∷ t ∷ []

-- The clause, as a set, is the one literal s = t.
pub record Says (terms : List Term) (c : List Literal) (s t : ℕ) : Type 0 where
  pub literal : Literal
  pub has : Has c literal
  pub alone : (m : Literal) → Has c m → m ≡ literal
  pub equates : Equates terms false literal s t

-- The clause is some literals and then, last, s = t.
pub record Ends (terms : List Term) (c before : List Literal) (s t : ℕ) : Type 0 where
  pub last : Literal
  pub written : c ≡ before ++ last ∷ []
  pub equates : Equates terms false last s t

-- The literals are, in their order, ¬(s = m), ¬(m = n) and so on, up to the term t.
abbrev pub Chain : List Term → ℕ → List Literal → ℕ → Type 0
Chain terms s [] t = s ≡ t
Chain terms s (l ∷ ls) t = (m : ℕ) × Equates terms true l s m × Chain terms m ls t

-- The arguments of a term.
abbrev pub args_at : List Term → ℕ → List ℕ
args_at terms n = (term_at terms n).args

-- `eq_reflexive` and `refl`: there is no premise, and the clause is t = t for some t.
pub record IsReflexive (q : Asked) : Type 0 where
  pub free : q.premises ≡ []
  pub t : ℕ
  pub clause : Says q.terms q.clause t t

-- `eq_transitive`: there is no premise, and the clause is a chain of one link or more and last the equality of its ends.
pub record IsTransitive (q : Asked) : Type 0 where
  pub free : q.premises ≡ []
  pub s : ℕ
  pub t : ℕ
  pub links : List Literal
  pub linked : 0 < length links
  pub chain : Chain q.terms s links t
  pub ends : Ends q.terms q.clause links s t

-- `eq_congruent`: there is no premise, the last literal equates two terms with one declared name and as many arguments; each pair of arguments at one place
-- is the same term or its negated equality is in the clause, and each literal before the last is such a pair's negated equality.
pub record IsCongruent (q : Asked) : Type 0 where
  pub free : q.premises ≡ []
  pub s : ℕ
  pub t : ℕ
  pub before : List Literal
  pub ends : Ends q.terms q.clause before s t
  pub name : ℕ
  pub names : ((term_at q.terms s).head ≡ head.Declared name) × ((term_at q.terms t).head ≡ head.Declared name)
  pub as_many : length (args_at q.terms s) ≡ length (args_at q.terms t)
  pub settled : (p : Sides) → Has (pairs (args_at q.terms s) (args_at q.terms t)) p →
      (p.left ≡ p.right) ⊎ ((l : Literal) × Has q.clause l × Equates q.terms true l p.left p.right)
  pub only_pairs : (l : Literal) → Has before l → (p : Sides) × Has (pairs (args_at q.terms s) (args_at q.terms t)) p × Equates q.terms true l p.left p.right

-- `trans`: the premises are r = s and s = t, the clause is r = t.
pub record IsJoined (q : Asked) : Type 0 where
  pub r : ℕ
  pub s : ℕ
  pub t : ℕ
  pub first : List Literal
  pub second : List Literal
  pub both : q.premises ≡ first ∷ second ∷ []
  pub begins : Says q.terms first r s
  pub goes_on : Says q.terms second s t
  pub clause : Says q.terms q.clause r t

-- `cong`: the clause equates two terms with one head, a declared name or an operator, and as many arguments; each pair of arguments at one place is the
-- same term or equated by a premise, and each premise is one equality.
pub record IsApplied (q : Asked) : Type 0 where
  pub s : ℕ
  pub t : ℕ
  pub clause : Says q.terms q.clause s t
  pub operation : is_operation (term_at q.terms s).head ≡ true
  pub heads : (term_at q.terms s).head ≡ (term_at q.terms t).head
  pub as_many : length (args_at q.terms s) ≡ length (args_at q.terms t)
  pub granted : (p : Sides) → Has (pairs (args_at q.terms s) (args_at q.terms t)) p →
      (p.left ≡ p.right) ⊎ ((c : List Literal) × Has q.premises c × Says q.terms c p.left p.right)
  pub equalities : (c : List Literal) → Has q.premises c → (a b : ℕ) × Says q.terms c a b

-- A step meets a rule.
abbrev pub Meets : Rule → Asked → Type 0
Meets Reflexive q = IsReflexive q
Meets Transitive q = IsTransitive q
Meets Congruent q = IsCongruent q
Meets Trans q = IsJoined q
Meets Cong q = IsApplied q

-- The test of each rule says for every question whether the rule is met.
abbrev pub RulesTested : Type 0
RulesTested = (r : Rule) (q : Asked) → Decides (meets_rule r q) (Meets r q)

-- A step has the name of a rule, no arguments, and meets the rule.
pub record Kept (q : Asked) : Type 0 where
  pub rule : Rule
  pub named : rule_named q.rule ≡ Some rule
  pub plain : q.args ≡ []
  pub meets : Meets rule q

-- The ruling is a yes.
abbrev pub is_yes : Ruling → Bool
is_yes Yes = true
is_yes Unmet = false
is_yes Arguments = false
is_yes Overflow = false

-- The referee says yes exactly to the steps that keep their rule.
abbrev pub YesToKept : Type 0
YesToKept = (q : Asked) → Decides (is_yes (equality.judge q)) (Kept q)
