-- What a parsed command shows of the tree that spells it.
use Rattle.std.specs.Prelude.{◌≡◌, ℕ, List, ◌∷◌, Some, None, codes, Option, MatchOption, ◌≢◌}
use Rattle.text.specs.Reading.{left}
use Rattle.text.specs.Tokens.{Tok, opens, symbol, keyword}
use Rattle.text.specs.declared.reader.Reader.{Reader}
use Rattle.forms.specs.Trees.{start, Listed, NotListed}
use Rattle.forms.specs.Forms.{Named, place_of_group, SetLogic, DeclareSort, DeclareFun, Assert, Problem, set_logic, declare_sort, declare_fun, assert, Assume, Reason, Step, Anchor, Proof, assume, step, anchor}
use Rattle.forms.specs.declared.item.Item.{Item}
use Rattle.forms.specs.declared.item.Item.TheVariants.{Term}
use Rattle.forms.specs.declared.word.Word.{Word}
use Rattle.forms.specs.declared.form.ProblemForm.{ProblemForm}
use Rattle.forms.specs.declared.form.ProblemForm.TheVariants as problem
use Rattle.forms.specs.declared.form.JustifiedBy.{JustifiedBy}
use Rattle.forms.specs.declared.form.ProofForm.{ProofForm}
use Rattle.forms.specs.declared.form.ProofForm.TheVariants as proof

abbrev pub named : Word → Named
named w = record { at = w.at; bytes = w.text.now }

-- A command of the problem part with names and places in place of its trees.
pub data Entry : Type 0 where
  logic : Named → Entry
  sort : Named → Entry
  function : Named → (takes : ℕ) → (gives : Named) → Entry
  claim : (term : ℕ) → Entry

-- What is kept of each form.
abbrev pub kept_set_logic : SetLogic → Entry
kept_set_logic c = logic c.logic

abbrev pub kept_declare_sort : DeclareSort → Entry
kept_declare_sort c = sort c.sort

abbrev pub kept_declare_fun : DeclareFun → Entry
kept_declare_fun c = function c.function c.at c.gives

abbrev pub kept_assert : Assert → Entry
kept_assert c = claim (start c.term)

abbrev pub kept_problem : Problem → Entry
kept_problem (set_logic at head c) = kept_set_logic c
kept_problem (declare_sort at head c) = kept_declare_sort c
kept_problem (declare_fun at head c) = kept_declare_fun c
kept_problem (assert at head c) = kept_assert c

-- What the code has kept.
abbrev pub seen_problem : ProblemForm → Entry
seen_problem (problem.SetLogic w) = logic (named w)
seen_problem (problem.DeclareSort w) = sort (named w)
seen_problem (problem.DeclareFun w takes gives) = function (named w) takes (named gives)
seen_problem (problem.Assert term) = claim term

-- A justification likewise: a list that may be absent has its place if it is there.
pub record Justified : Type 0 where
  pub rule : Named
  pub premises : Option ℕ
  pub args : Option ℕ

-- A command of the proof part.
pub data Move : Type 0 where
  assumes : Named → (term : ℕ) → Move
  steps : Named → (clause : ℕ) → Justified → Move
  anchors : Named → Move

abbrev pub kept_assume : Assume → Move
kept_assume c = assumes c.assumption (start c.term)

-- The rule's name and the places of the two lists.
abbrev pub kept_reason : Reason → Justified
kept_reason c = record { rule = c.rule; premises = place_of_group c.premises; args = place_of_group c.args }

abbrev pub kept_step : Step → Move
kept_step c = steps c.step c.at (kept_reason c.reason)

abbrev pub kept_anchor : Anchor → Move
kept_anchor c = anchors c.step

abbrev pub kept_proof : Proof → Move
kept_proof (assume at head c) = kept_assume c
kept_proof (step at head c) = kept_step c
kept_proof (anchor at head c) = kept_anchor c

abbrev pub seen_reason : JustifiedBy → Justified
seen_reason j = record { rule = named j.rule; premises = j.premises; args = j.args }

abbrev pub seen_proof : ProofForm → Move
seen_proof (proof.Assume w term) = assumes (named w) term
seen_proof (proof.Step s) = steps (named s.name) s.clause (seen_reason s.reason)
seen_proof (proof.Anchor w) = anchors (named w)

-- Tokens are of a form exactly when a tree of it spells them, and then what the code has kept is what is kept of that tree.
abbrev pub Parses : {T K F : Type 0} → (T → Type 0) → (T → List Tok) → (T → K) → (F → K) → List Tok → Option F → Type 0
Parses {T} Fit spell kept seen tokens r =
    MatchOption r ((t : T) → Fit t → tokens ≢ spell t) (λ form. (t : T) × Fit t × (tokens ≡ spell t) × (seen form ≡ kept t))

-- Reading a group that may be absent gives the place of its list and what follows it. It fails where the key comes first and no list of 1 to 64 items after it.
abbrev pub Grouped : List ℕ → Item → List Tok → Option (Option ℕ × Reader) → Type 0
Grouped key item tokens None =
    ((k : ℕ) × (list : List Tok) × (tokens ≡ keyword k key ∷ list)) × ((k at : ℕ) (inner : List Tok) → tokens ≡ keyword k key ∷ opens at ∷ inner → NotListed item 1 inner)
Grouped key item tokens (Some (None, rest)) = ((k : ℕ) (list : List Tok) → tokens ≢ keyword k key ∷ list) × (left rest ≡ tokens)
Grouped key item tokens (Some (Some at, rest)) =
    (k : ℕ) × (inner : List Tok) × (tokens ≡ keyword k key ∷ opens at ∷ inner) × Listed item 1 inner (left rest)

-- Reading `(cl term ..)`.
pub record Clause (tokens : List Tok) (at : ℕ) (rest : List Tok) : Type 0 where
  pub cl : ℕ
  pub inner : List Tok
  pub opened : tokens ≡ opens at ∷ symbol cl (codes "cl") ∷ inner
  pub listed : Listed Term 0 inner rest

abbrev pub NoClause : List Tok → Type 0
NoClause tokens = (at cl : ℕ) (inner : List Tok) → tokens ≡ opens at ∷ symbol cl (codes "cl") ∷ inner → NotListed Term 0 inner
