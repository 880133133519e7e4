-- Of one command no two outcomes count differently.
use Rattle.std.proofs.Common.{◌≡◌, ℕ, List, Some, None, Ok, Err, sym, refl, ap, ◌∙◌}
use Rattle.text.specs.Tokens.{Tok, first_fault, tokens}
use Rattle.text.specs.declared.token.TokenFault.{TokenFault}
use Rattle.text.proofs.Places.{off}
use Rattle.forms.specs.Faults.{too_deep}
use Rattle.forms.specs.Forms.{spell_problem, spell_proof}
use Rattle.forms.specs.Parsed.{Entry, logic, sort, function, claim, Move, assumes, steps, anchors, seen_problem, seen_proof}
use Rattle.forms.specs.declared.fault.FormFault.{FormFault}
use Rattle.forms.specs.declared.fault.FormFault.TheVariants.{TooDeep, NoForm}
use Rattle.forms.specs.declared.form.ProblemForm.{ProblemForm}
use Rattle.forms.specs.declared.form.ProblemForm.TheVariants as problem
use Rattle.forms.specs.declared.form.ProofForm.{ProofForm}
use Rattle.forms.specs.declared.form.ProofForm.TheVariants as proof
use Rattle.commands.specs.Outcomes.{OfForm, Comes, form_kind, Alike}
use Rattle.commands.specs.declared.part.Part.{Part}
use Rattle.commands.specs.declared.part.Part.TheVariants as part
use Rattle.commands.specs.declared.fault.Fault.TheVariants.{Token, Form as Formal}
use Rattle.commands.specs.declared.form.Form.{Form}
use Rattle.commands.specs.declared.form.Form.TheVariants.{Problem, Proof}
use Rattle.commands.specs.declared.kind.Kind.{Kind}
use Rattle.commands.specs.declared.kind.Kind.TheVariants as kind
use Rattle.commands.specs.declared.outcome.Outcome.{Outcome}
use Rattle.commands.specs.declared.outcome.Outcome.TheVariants.{Skipped, Accepted, Refused}

-- the kind of what is kept of a command
abbrev entry_kind : Entry → Kind
entry_kind (logic w) = kind.SetLogic
entry_kind (sort w) = kind.DeclareSort
entry_kind (function w takes gives) = kind.DeclareFun
entry_kind (claim term) = kind.Assert

abbrev move_kind : Move → Kind
move_kind (assumes w term) = kind.Assume
move_kind (steps w clause reason) = kind.Step
move_kind (anchors w) = kind.Anchor

problem_kind : (f : ProblemForm) → form_kind (Problem f) ≡ entry_kind (seen_problem f)
problem_kind (problem.SetLogic w) = refl
problem_kind (problem.DeclareSort w) = refl
problem_kind (problem.DeclareFun w takes gives) = refl
problem_kind (problem.Assert term) = refl

proof_kind : (f : ProofForm) → form_kind (Proof f) ≡ move_kind (seen_proof f)
proof_kind (proof.Assume w term) = refl
proof_kind (proof.Step s) = refl
proof_kind (proof.Anchor w) = refl

-- one form at most, since the tree is the same
forms_alike : (p : Part) (ts : List Tok) (f g : Form) → OfForm p ts (Ok f) → OfForm p ts (Ok g) → form_kind f ≡ form_kind g
forms_alike part.Problem ts (Problem f) (Problem g) h k =
    let e : ts ≡ spell_problem h.1.0 = h.1.2 in
    problem_kind f ∙ ap entry_kind (h.2 h.1.0 e ∙ sym (k.2 h.1.0 e)) ∙ sym (problem_kind g)
forms_alike part.Problem ts (Problem f) (Proof g) h k = absurd k
forms_alike part.Problem ts (Proof f) g h k = absurd h
forms_alike part.Proof ts (Problem f) g h k = absurd h
forms_alike part.Proof ts (Proof f) (Problem g) h k = absurd k
forms_alike part.Proof ts (Proof f) (Proof g) h k =
    let e : ts ≡ spell_proof h.1.0 = h.1.2 in
    proof_kind f ∙ ap move_kind (h.2 h.1.0 e ∙ sym (k.2 h.1.0 e)) ∙ sym (proof_kind g)

-- a form is no fault
deep : (ts : List Tok) (at : ℕ) → too_deep 0 ts ≡ None → too_deep 0 ts ≡ Some at → ⊥
deep ts at h k = off (cc)

faulty : (ts : List Tok) (f : TokenFault) → first_fault ts ≡ None → first_fault ts ≡ Some f → ⊥
faulty ts f h k = off (cc)

form_or_fault : (p : Part) (ts : List Tok) (f : Form) (x : FormFault) → OfForm p ts (Ok f) → OfForm p ts (Err x) → ⊥
form_or_fault part.Problem ts (Problem f) (TooDeep at) h k = deep ts at h.0 k
form_or_fault part.Problem ts (Problem f) NoForm h k = k.1 h.1.0 h.1.1 h.1.2
form_or_fault part.Problem ts (Proof f) x h k = h
form_or_fault part.Proof ts (Problem f) x h k = h
form_or_fault part.Proof ts (Proof f) (TooDeep at) h k = deep ts at h.0 k
form_or_fault part.Proof ts (Proof f) NoForm h k = k.1 h.1.0 h.1.1 h.1.2

pub determined : (p : Part) (text : List ℕ) (a b : Outcome) → Comes p text a → Comes p text b → Alike a b
determined p text Skipped Skipped h k = (refl, refl, refl)
determined p text Skipped (Accepted d) h k = absurd (k.0 h)
determined p text Skipped (Refused y) h k = absurd (k.0 h)
determined p text (Accepted c) Skipped h k = absurd (h.0 k)
determined p text (Accepted c) (Accepted d) h k = (forms_alike p (tokens text) c.form d.form h.1.2 k.1.2, refl, h.1.1 ∙ sym k.1.1)
determined p text (Accepted c) (Refused (Token f)) h k = absurd (faulty (tokens text) f h.1.0 k.1)
determined p text (Accepted c) (Refused (Formal f)) h k = absurd (form_or_fault p (tokens text) c.form f h.1.2 k.1.1)
determined p text (Refused x) Skipped h k = absurd (h.0 k)
determined p text (Refused (Token f)) (Accepted d) h k = absurd (faulty (tokens text) f k.1.0 h.1)
determined p text (Refused (Formal f)) (Accepted d) h k = absurd (form_or_fault p (tokens text) d.form f k.1.2 h.1.1)
determined p text (Refused x) (Refused y) h k = (refl, refl, refl)
