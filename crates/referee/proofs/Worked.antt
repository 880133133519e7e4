-- Worked cases by one computed test.
use Rattle.std.proofs.Common.{◌≡◌, ℕ, Bool, true, eqb, List, [], ◌∷◌, get_or, sym, refl, ap, ◌∙◌}
use Rattle.std.specs.List.{list_all}
use Rattle.std.proofs.lemmas.Bool.{and_parts, eqb-true}
use Rattle.referee.specs.Cases.{Case, Worked}
use Rattle.referee.specs.Meaning.{Meaning}
use Rattle.referee.specs.declared.ruling.Ruling.{Ruling}
use Rattle.referee.specs.declared.ruling.Ruling.TheVariants.{Yes, Unmet, Arguments, Overflow}

-- a ruling by its place in the list of rulings
abbrev pub place : Ruling → ℕ
place Yes = 0
place Unmet = 1
place Arguments = 2
place Overflow = 3

abbrev ruling_at : ℕ → Ruling
ruling_at n = get_or (Yes ∷ Unmet ∷ Arguments ∷ Overflow ∷ []) n Yes

at_place : (r : Ruling) → r ≡ ruling_at (place r)
at_place Yes = refl
at_place Unmet = refl
at_place Arguments = refl
at_place Overflow = refl

-- whether a case gets its ruling
abbrev pub works : Meaning → Case → Bool
works m c = eqb (place (m.judge c.question)) (place c.ruling)

pub all_worked : (m : Meaning) (cs : List Case) → list_all (works m) cs ≡ true → Worked m cs
all_worked m [] e = tt
all_worked m (c ∷ cs) e =
    let both = and_parts (works m c) (list_all (works m) cs) e in
    let answer = m.judge c.question in
    (at_place answer ∙ ap ruling_at (eqb-true (place answer) (place c.ruling) both.0) ∙ sym (at_place c.ruling), all_worked m cs both.1)
