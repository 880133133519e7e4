-- What people read of a form: its first word, and the name that it declares or bears.
use Rattle.std.specs.Prelude.{ℕ, cond, List, ◌++◌, codes}
use Rattle.std.specs.Str.{is_utf8}
use Rattle.forms.specs.declared.word.Word.{Word}
use Rattle.forms.specs.declared.form.ProblemForm.{ProblemForm}
use Rattle.forms.specs.declared.form.ProblemForm.TheVariants as problem
use Rattle.forms.specs.declared.form.ProofForm.{ProofForm}
use Rattle.forms.specs.declared.form.ProofForm.TheVariants as proof
use Rattle.commands.specs.declared.form.Form.{Form}
use Rattle.commands.specs.declared.form.Form.TheVariants.{Problem, Proof}

-- A name is read as its bytes, or as a question mark where they are no text.
unfoldable pub name_shown : Word → List ℕ
name_shown name = cond (is_utf8 name.text.now) name.text.now (codes "?")

abbrev pub problem_shown : ProblemForm → List ℕ
problem_shown (problem.SetLogic logic) = codes "set-logic " ++ name_shown logic
problem_shown (problem.DeclareSort sort) = codes "declare-sort " ++ name_shown sort
problem_shown (problem.DeclareFun function takes gives) = codes "declare-fun " ++ name_shown function
problem_shown (problem.Assert term) = codes "assert"

abbrev pub proof_shown : ProofForm → List ℕ
proof_shown (proof.Assume name term) = codes "assume " ++ name_shown name
proof_shown (proof.Step step) = codes "step " ++ (name_shown step.name ++ (codes " by " ++ name_shown step.reason.rule))
proof_shown (proof.Anchor step) = codes "anchor " ++ name_shown step

abbrev pub form_shown : Form → List ℕ
form_shown (Problem form) = problem_shown form
form_shown (Proof form) = proof_shown form
