-- What the form layer takes for the declaration of a function is one.
use Rattle.std.proofs.Common.{◌≡◌, ℕ, List, Ok}
use Rattle.forms.specs.Forms.{Problem, set_logic, declare_sort, declare_fun, assert, spell_problem, FitProblem}
use Rattle.forms.specs.Layer.{Layer}
use Rattle.forms.specs.Parsed.{function, named, kept_problem, seen_problem}
use Rattle.forms.specs.declared.form.ProblemForm.TheVariants as problem
use Rattle.forms.specs.declared.word.Word.{Word}
use Rattle.text.specs.Tokens.{tokens}
use Rattle.text.proofs.Places.{off}
use Rattle.declarations.specs.Calls.{IsDeclaration}

pub is_declaration : (text : List ℕ) (w : Word) (takes : ℕ) (g : Word) → Layer FitProblem spell_problem kept_problem seen_problem (tokens text) (Ok (problem.DeclareFun w takes g)) → IsDeclaration text (function (named w) takes (named g))
is_declaration text w takes g h = from h.1.0 h.1.1 h.1.2
  where
    from : (p : Problem) → FitProblem p → tokens text ≡ spell_problem p → IsDeclaration text (function (named w) takes (named g))
    from (set_logic at head c) fit e = off (let same = h.2 (set_logic at head c) e in cc)
    from (declare_sort at head c) fit e = off (let same = h.2 (declare_sort at head c) e in cc)
    from (declare_fun at head c) fit e = (c, record { at = at; head = head; fit = fit; spelt = e; same = h.2 (declare_fun at head c) e })
    from (assert at head c) fit e = off (let same = h.2 (assert at head c) e in cc)
