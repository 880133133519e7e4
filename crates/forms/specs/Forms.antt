-- The forms of commands: their trees, and the tokens that spell them.
use Rattle.std.specs.Prelude.{ℕ, ◌≤◌, List, [], ◌∷◌, Some, None, codes, Option}
use Rattle.text.specs.Tokens.{Tok, opens, closes, symbol, keyword, numeral}
use Rattle.forms.specs.Trees.{Tree, Trees, count, spell, spells, Fit, Fits}
use Rattle.forms.specs.declared.item.Item.{Item}
use Rattle.forms.specs.declared.item.Item.TheVariants.{Term, Symbol, Argument}

-- A symbol with its place.
pub record Named : Type 0 where
  pub at : ℕ
  pub bytes : List ℕ

abbrev pub word : Named → Tok
word w = symbol w.at w.bytes

-- `:key (item ..)`, which may be absent.
pub data Group : Type 0 where
  absent : Group
  given : (key at : ℕ) (items : Trees) (end : ℕ) → Group

abbrev pub spell_group : List ℕ → Group → List Tok → List Tok
spell_group key absent rest = rest
spell_group key (given k at items end) rest = keyword k key ∷ opens at ∷ spells items (closes end ∷ rest)

abbrev pub FitGroup : Item → Group → Type 0
FitGroup item absent = Unit {0}
FitGroup item (given k at items end) = (1 ≤ count items) × (count items ≤ 64) × Fits item items

-- The place of a group's list, if the group is there.
abbrev pub place_of_group : Group → Option ℕ
place_of_group absent = None
place_of_group (given k at items end) = Some at

-- What follows `(set-logic`: a name and the closing bracket.
pub record SetLogic : Type 0 where
  pub logic : Named
  pub end : ℕ

-- What follows `(declare-sort`: a name, 0 and the closing bracket.
pub record DeclareSort : Type 0 where
  pub sort : Named
  pub zero_at : ℕ
  pub end : ℕ

-- What follows `(declare-fun`: a name, the sorts of its arguments in brackets, the sort of its result, and the closing bracket.
pub record DeclareFun : Type 0 where
  pub function : Named
  pub at : ℕ
  pub takes : Trees
  pub right : ℕ
  pub gives : Named
  pub end : ℕ

-- What follows `(assert`: a term and the closing bracket.
pub record Assert : Type 0 where
  pub term : Tree
  pub end : ℕ

-- A command of the problem part, with the places of its bracket and of its first word.
pub data Problem : Type 0 where
  set_logic : (at head : ℕ) → SetLogic → Problem
  declare_sort : (at head : ℕ) → DeclareSort → Problem
  declare_fun : (at head : ℕ) → DeclareFun → Problem
  assert : (at head : ℕ) → Assert → Problem

abbrev pub spell_set_logic : SetLogic → List Tok
spell_set_logic c = word c.logic ∷ closes c.end ∷ []

abbrev pub spell_declare_sort : DeclareSort → List Tok
spell_declare_sort c = word c.sort ∷ numeral c.zero_at 0 ∷ closes c.end ∷ []

abbrev pub spell_declare_fun : DeclareFun → List Tok
spell_declare_fun c =
    word c.function ∷ opens c.at ∷ spells c.takes (closes c.right ∷ word c.gives ∷ closes c.end ∷ [])

abbrev pub spell_assert : Assert → List Tok
spell_assert c = spell c.term (closes c.end ∷ [])

-- The tokens of a command of the problem part.
abbrev pub spell_problem : Problem → List Tok
spell_problem (set_logic at head c) = opens at ∷ symbol head (codes "set-logic") ∷ spell_set_logic c
spell_problem (declare_sort at head c) = opens at ∷ symbol head (codes "declare-sort") ∷ spell_declare_sort c
spell_problem (declare_fun at head c) = opens at ∷ symbol head (codes "declare-fun") ∷ spell_declare_fun c
spell_problem (assert at head c) = opens at ∷ symbol head (codes "assert") ∷ spell_assert c

abbrev pub FitDeclareFun : DeclareFun → Type 0
FitDeclareFun c = (count c.takes ≤ 64) × Fits Symbol c.takes

abbrev pub FitAssert : Assert → Type 0
FitAssert c = Fit Term c.term

-- At most 64 argument sorts, which are symbols; a claim is a term.
abbrev pub FitProblem : Problem → Type 0
FitProblem (set_logic at head c) = Unit {0}
FitProblem (declare_sort at head c) = Unit {0}
FitProblem (declare_fun at head c) = FitDeclareFun c
FitProblem (assert at head c) = FitAssert c

-- What follows `(assume`: a name, a term and the closing bracket.
pub record Assume : Type 0 where
  pub assumption : Named
  pub term : Tree
  pub end : ℕ

-- How a step is justified: `:rule` and a name, the premises and the arguments, and the closing bracket.
pub record Reason : Type 0 where
  pub key : ℕ
  pub rule : Named
  pub premises : Group
  pub args : Group
  pub end : ℕ

-- What follows `(step`: a name, `(cl term ..)`, and its justification.
pub record Step : Type 0 where
  pub step : Named
  pub at : ℕ
  pub cl : ℕ
  pub literals : Trees
  pub right : ℕ
  pub reason : Reason

-- What follows `(anchor`: `:step`, a name and the closing bracket.
pub record Anchor : Type 0 where
  pub key : ℕ
  pub step : Named
  pub end : ℕ

-- A command of the proof part.
pub data Proof : Type 0 where
  assume : (at head : ℕ) → Assume → Proof
  step : (at head : ℕ) → Step → Proof
  anchor : (at head : ℕ) → Anchor → Proof

abbrev pub spell_assume : Assume → List Tok
spell_assume c = word c.assumption ∷ spell c.term (closes c.end ∷ [])

abbrev pub spell_reason : Reason → List Tok
spell_reason c =
    keyword c.key (codes "rule") ∷ word c.rule
    ∷ spell_group (codes "premises") c.premises (spell_group (codes "args") c.args (closes c.end ∷ []))

abbrev pub spell_step : Step → List Tok
spell_step c =
    word c.step ∷ opens c.at ∷ symbol c.cl (codes "cl")
    ∷ spells c.literals (closes c.right ∷ spell_reason c.reason)

abbrev pub spell_anchor : Anchor → List Tok
spell_anchor c = keyword c.key (codes "step") ∷ word c.step ∷ closes c.end ∷ []

-- The tokens of a command of the proof part.
abbrev pub spell_proof : Proof → List Tok
spell_proof (assume at head c) = opens at ∷ symbol head (codes "assume") ∷ spell_assume c
spell_proof (step at head c) = opens at ∷ symbol head (codes "step") ∷ spell_step c
spell_proof (anchor at head c) = opens at ∷ symbol head (codes "anchor") ∷ spell_anchor c

abbrev pub FitAssume : Assume → Type 0
FitAssume c = Fit Term c.term

-- Premises are symbols; of premises and arguments there are 1 to 64 if any.
abbrev pub FitReason : Reason → Type 0
FitReason c = FitGroup Symbol c.premises × FitGroup Argument c.args

-- At most 64 literals, which are terms.
abbrev pub FitStep : Step → Type 0
FitStep c = (count c.literals ≤ 64) × Fits Term c.literals × FitReason c.reason

abbrev pub FitProof : Proof → Type 0
FitProof (assume at head c) = FitAssume c
FitProof (step at head c) = FitStep c
FitProof (anchor at head c) = Unit {0}
