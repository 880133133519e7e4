-- The form layer over a whole command.
use Rattle.std.specs.Prelude.{◌≡◌, List, Some, None, Ok, Err, Result, ◌≢◌}
use Rattle.text.specs.Tokens.{Tok}
use Rattle.forms.specs.Faults.{too_deep}
use Rattle.forms.specs.Forms.{Problem, spell_problem, Proof, spell_proof}
use Rattle.forms.specs.Trees.{Tree, spell}
use Rattle.forms.specs.declared.fault.FormFault.{FormFault}
use Rattle.forms.specs.declared.fault.FormFault.TheVariants.{TooDeep, NoForm}

-- Brackets are looked at over the whole command before its form. The form is one exactly when a tree spells the tokens, and what is kept of the command is what is kept of that tree.
abbrev pub Layer : {T K F : Type 0} → (T → Type 0) → (T → List Tok) → (T → K) → (F → K) → List Tok → Result F FormFault → Type 0
Layer {T} Fit spell kept seen tokens (Err (TooDeep at)) = too_deep 0 tokens ≡ Some at
Layer {T} Fit spell kept seen tokens (Err NoForm) = (too_deep 0 tokens ≡ None) × ((t : T) → Fit t → tokens ≢ spell t)
Layer {T} Fit spell kept seen tokens (Ok form) =
    (too_deep 0 tokens ≡ None) × ((t : T) × Fit t × (tokens ≡ spell t)) × ((t : T) → tokens ≡ spell t → seen form ≡ kept t)

-- Spelling shows the tree: of a term, with what follows it, and of a command of either part. No command is one of both parts.
pub record Unambiguous : Type 0 where
  pub terms : (t u : Tree) (A B : List Tok) → spell t A ≡ spell u B → (t ≡ u) × (A ≡ B)
  pub problems : (p q : Problem) → spell_problem p ≡ spell_problem q → p ≡ q
  pub proofs : (p q : Proof) → spell_proof p ≡ spell_proof q → p ≡ q
  pub apart : (p : Problem) (q : Proof) → spell_problem p ≢ spell_proof q
