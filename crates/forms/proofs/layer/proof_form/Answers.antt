use Rattle.forms.specs.Forms.{spell_proof, FitProof}
use Rattle.forms.specs.Parsed.{kept_proof, seen_proof}
use Rattle.forms.proofs.Layers.{judged}
use Rattle.forms.proofs.Unambiguous.{unambiguous, one_proof}
use Rattle.forms.proofs.layer.proof_form.Goals as goal

pub returns-in_err-shallow-clause-unambiguous : goal.returns-in_err-shallow-clause-unambiguous
returns-in_err-shallow-clause-unambiguous c = unambiguous

pub returns : goal.returns
returns c = record {
  value =
      rw c.ok_or.ensures.value (judged FitProof spell_proof kept_proof seen_proof one_proof _ _ c.in_ok-shallow.ensures c.new.ensures.all _ c.proof.ensures);
  unambiguous = unambiguous;
}
