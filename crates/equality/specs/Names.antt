-- The rules of equality by their names.
use Rattle.std.specs.Prelude.{ℕ, List, [], ◌∷◌, codes, Option}
use Rattle.std.specs.List.{find}
use Rattle.std.specs.Option.{option_map}
use Rattle.std.specs.Str.{bytes_eq}
use Rattle.equality.specs.declared.rule.Rule.{Rule}
use Rattle.equality.specs.declared.rule.Rule.TheVariants.{Reflexive, Transitive, Congruent, Trans, Cong}

-- The names, each with its rule.
abbrev pub names : List (List ℕ × Rule)
names =
    (codes "eq_reflexive", Reflexive) ∷
    (codes "refl", Reflexive) ∷
    (codes "eq_transitive", Transitive) ∷
    (codes "eq_congruent", Congruent) ∷
    (codes "trans", Trans) ∷
    (codes "cong", Cong) ∷
    []

-- The rule with a name.
abbrev pub rule_named : List ℕ → Option Rule
rule_named name = option_map (λ p. p.1) (find (λ p. bytes_eq name p.0) names)
