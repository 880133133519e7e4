-- The search for a rule by its name, over rows as the code has them.
use Rattle.std.proofs.Common.{◌≡◌, ℕ, Bool, true, false, Bor, List, [], ◌∷◌, Some, None, Option, cond, map, option_map, refl, ap, sym, ◌∙◌}
use Rattle.std.specs.List.{find}
use Rattle.std.specs.Str.{bytes_eq}
use Rattle.equality.specs.declared.rule.Rule.{Rule}
use Rattle.equality.specs.Names.{names, rule_named}

abbrev pub Row : Type 0
Row = Bor (List ℕ) × Rule

-- a row as the definition has it
abbrev pub seen : Row → List ℕ × Rule
seen r = (r.0.now, r.1)

on_cond : {X Y : Type 0} (h : X → Y) (b : Bool) (x y : Option X) → cond b (option_map h x) (option_map h y) ≡ option_map h (cond b x y)
on_cond h true x y = refl
on_cond h false x y = refl

find_seen : (p : List ℕ × Rule → Bool) (rows : List Row) → find p (map seen rows) ≡ option_map seen (find (λ r. p (seen r)) rows)
find_seen p [] = refl
find_seen p (r ∷ rows) =
    ap (cond (p (seen r)) (Some (seen r))) (find_seen p rows)
    ∙ on_cond seen (p (seen r)) (Some r) (find (λ r. p (seen r)) rows)

rule_of : (o : Option (Bor Row)) → option_map (λ x. x.now.1) o ≡ option_map (λ p. p.1) (option_map seen (option_map (λ x. x.now) o))
rule_of None = refl
rule_of (Some x) = refl

pub rule_found : (name : List ℕ) (rows : List Row) → map seen rows ≡ names → (o : Option (Bor Row)) →
    option_map (λ x. x.now) o ≡ find (λ r. bytes_eq name r.0.now) rows → option_map (λ x. x.now.1) o ≡ rule_named name
rule_found name rows e o f =
    rule_of o
    ∙ ap (λ z. option_map (λ p. p.1) (option_map seen z)) f
    ∙ ap (option_map (λ p. p.1)) (sym (find_seen (λ p. bytes_eq name p.0) rows) ∙ ap (find (λ p. bytes_eq name p.0)) e)
