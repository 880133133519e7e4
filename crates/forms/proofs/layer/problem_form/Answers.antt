use Rattle.forms.specs.Forms.{spell_problem, FitProblem}
use Rattle.forms.specs.Parsed.{kept_problem, seen_problem}
use Rattle.forms.proofs.Layers.{judged}
use Rattle.forms.proofs.Unambiguous.{unambiguous, one_problem}
use Rattle.forms.proofs.layer.problem_form.Goals as goal

pub returns-in_err-shallow-clause-unambiguous : goal.returns-in_err-shallow-clause-unambiguous
returns-in_err-shallow-clause-unambiguous c = unambiguous

pub returns : goal.returns
returns c = record {
  value =
      rw c.ok_or.ensures.value (judged FitProblem spell_problem kept_problem seen_problem one_problem _ _ c.in_ok-shallow.ensures c.new.ensures.all _ c.problem.ensures);
  unambiguous = unambiguous;
}
