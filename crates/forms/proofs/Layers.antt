-- From what a part's forms say to what the layer says.
use Rattle.std.proofs.Common.{◌≡◌, List, Some, None, Option, sym, ap, ◌∙◌}
use Rattle.std.specs.Option.{ok_or}
use Rattle.text.specs.Tokens.{Tok}
use Rattle.forms.specs.Faults.{too_deep}
use Rattle.forms.specs.Parsed.{Parses}
use Rattle.forms.specs.Layer.{Layer}
use Rattle.forms.specs.declared.fault.FormFault.TheVariants.{NoForm}

module _ {T K F : Type 0} (Fit : T → Type 0) (spell : T → List Tok) (kept : T → K) (seen : F → K) (one : (t u : T) → spell t ≡ spell u → t ≡ u) (tokens left : List Tok) (shallow : too_deep 0 tokens ≡ None) (all : left ≡ tokens) where
  pub judged : (r : Option F) → Parses Fit spell kept seen left r → Layer Fit spell kept seen tokens (ok_or r NoForm)
  judged None h = (shallow, λ t fit e. h t fit (all ∙ e))
  judged (Some form) h =
      let spelt : tokens ≡ spell h.0 = sym all ∙ h.2 in
      (shallow, (h.0, h.1, spelt), λ t e. h.3 ∙ ap kept (one h.0 t (sym spelt ∙ e)))
