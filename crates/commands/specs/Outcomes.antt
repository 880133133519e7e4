-- What a command comes to: it is skipped as chatter, accepted with its form, or refused.
use Rattle.std.specs.Prelude.{◌≡◌, ℕ, List, length, Some, None, Ok, Err, Result}
use Rattle.text.specs.Tokens.{Tok, first_fault, tokens}
use Rattle.forms.specs.Forms.{spell_problem, FitProblem, spell_proof, FitProof}
use Rattle.forms.specs.Parsed.{kept_problem, seen_problem, kept_proof, seen_proof}
use Rattle.forms.specs.Layer.{Layer}
use Rattle.forms.specs.declared.fault.FormFault.{FormFault}
use Rattle.forms.specs.declared.form.ProblemForm.TheVariants as problem
use Rattle.forms.specs.declared.form.ProofForm.TheVariants as proof
use Rattle.commands.specs.Chatter.{Chatter}
use Rattle.commands.specs.Faults as fault
use Rattle.commands.specs.declared.part.Part.{Part}
use Rattle.commands.specs.declared.part.Part.TheVariants as part
use Rattle.commands.specs.declared.fault.Fault.{Fault}
use Rattle.commands.specs.declared.fault.Fault.TheVariants as fault_of
use Rattle.commands.specs.declared.form.Form.{Form}
use Rattle.commands.specs.declared.form.Form.TheVariants.{Problem, Proof}
use Rattle.commands.specs.declared.kind.Kind.{Kind}
use Rattle.commands.specs.declared.kind.Kind.TheVariants as kind
use Rattle.commands.specs.declared.outcome.Command.{Command}
use Rattle.commands.specs.declared.outcome.Outcome.{Outcome}
use Rattle.commands.specs.declared.outcome.Outcome.TheVariants.{Skipped, Accepted, Refused}

-- What the form layer says of tokens, in each part: a form of that part, or a fault.
abbrev pub OfForm : Part → List Tok → Result Form FormFault → Type 0
OfForm part.Problem ts (Ok (Problem form)) = Layer FitProblem spell_problem kept_problem seen_problem ts (Ok form)
OfForm part.Problem ts (Ok (Proof form)) = ⊥
OfForm part.Problem ts (Err f) = Layer FitProblem spell_problem kept_problem seen_problem ts (Err f)
OfForm part.Proof ts (Ok (Problem form)) = ⊥
OfForm part.Proof ts (Ok (Proof form)) = Layer FitProof spell_proof kept_proof seen_proof ts (Ok form)
OfForm part.Proof ts (Err f) = Layer FitProof spell_proof kept_proof seen_proof ts (Err f)

-- The layers in their order: the first fault of a token, or else what the form layer says.
abbrev pub Examined : Part → List Tok → Result Command Fault → Type 0
Examined p ts (Err (fault_of.Token f)) = first_fault ts ≡ Some f
Examined p ts (Err (fault_of.Form f)) = (first_fault ts ≡ None) × OfForm p ts (Err f)
Examined p ts (Ok command) = (first_fault ts ≡ None) × (command.tokens ≡ length ts) × OfForm p ts (Ok command.form)

-- Chatter is skipped, and all else is examined.
abbrev pub Comes : Part → List ℕ → Outcome → Type 0
Comes p text Skipped = Chatter p text
Comes p text (Accepted command) = (Chatter p text → ⊥) × Examined p (tokens text) (Ok command)
Comes p text (Refused f) = (Chatter p text → ⊥) × Examined p (tokens text) (Err f)

-- Which form it is.
abbrev pub form_kind : Form → Kind
form_kind (Problem (problem.SetLogic logic)) = kind.SetLogic
form_kind (Problem (problem.DeclareSort sort)) = kind.DeclareSort
form_kind (Problem (problem.DeclareFun function takes gives)) = kind.DeclareFun
form_kind (Problem (problem.Assert term)) = kind.Assert
form_kind (Proof (proof.Assume name term)) = kind.Assume
form_kind (Proof (proof.Step step)) = kind.Step
form_kind (Proof (proof.Anchor step)) = kind.Anchor

-- What an outcome is counted as.
abbrev pub kind_of : Outcome → Kind
kind_of Skipped = kind.Skipped
kind_of (Accepted command) = form_kind command.form
kind_of (Refused f) = kind.Refused

-- A kind's place in a table of all kinds.
abbrev pub number : Kind → ℕ
number kind.Skipped = 0
number kind.Refused = 1
number kind.SetLogic = 2
number kind.DeclareSort = 3
number kind.DeclareFun = 4
number kind.Assert = 5
number kind.Assume = 6
number kind.Step = 7
number kind.Anchor = 8

-- One for a command that is accepted.
abbrev pub command_count : Outcome → ℕ
command_count Skipped = 0
command_count (Accepted command) = 1
command_count (Refused f) = 0

-- The tokens of a command that is accepted.
abbrev pub token_count : Outcome → ℕ
token_count Skipped = 0
token_count (Accepted command) = command.tokens
token_count (Refused f) = 0

-- Two outcomes are counted alike.
abbrev pub Alike : Outcome → Outcome → Type 0
Alike a b = (kind_of a ≡ kind_of b) × (command_count a ≡ command_count b) × (token_count a ≡ token_count b)

-- All that a command can come to is counted alike.
abbrev pub Determined : Part → List ℕ → Type 0
Determined p text = (a b : Outcome) → Comes p text a → Comes p text b → Alike a b

-- The byte to point at: the one at fault, or else the first.
abbrev pub place_of : Outcome → ℕ
place_of Skipped = 0
place_of (Accepted command) = 0
place_of (Refused f) = fault.place_of f
