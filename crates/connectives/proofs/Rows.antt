-- A rule that is found in the code's table, as the definition's table has it.
use Rattle.std.proofs.Common.{◌≡◌, ℕ, List, [], ◌∷◌, map, refl, sym, ◌∙◌, ap, inl, inr}
use Rattle.std.specs.Prelude.{find}
use Rattle.std.specs.Option.{option_map}
use Rattle.std.specs.Str.{bytes_eq}
use Rattle.std.proofs.lemmas.Bool.{cases_Bool, cond-true, cond-false}
use Rattle.connectives.specs.declared.table.Rule.{Rule as CodeRule}
use Rattle.connectives.specs.Table.{named}
use Rattle.connectives.specs.Search.{seen}

pub found_seen : (name : List ℕ) (rs : List CodeRule) → option_map seen (find (λ (r : CodeRule). bytes_eq name r.name.now) rs) ≡ named (map seen rs) name
found_seen name [] = refl
found_seen name (r ∷ rs) = elim (cases_Bool (bytes_eq name r.name.now)) [
  | inl e ↦ ap (option_map seen) (cond-true _ _ _ e) ∙ sym (cond-true _ _ _ e)
  | inr e ↦ ap (option_map seen) (cond-false _ _ _ e) ∙ found_seen name rs ∙ sym (cond-false _ _ _ e)
]
