-- What a referee means, and the law that it keeps.
use Rattle.std.specs.Prelude.{◌≡◌, ℕ, Bool, true, false, cond, ◌||◌, List}
use Rattle.std.specs.List.{list_all}
use Rattle.entries.specs.declared.entry.Name.{Name}
use Rattle.meaning.specs.Proper.{Proper}
use Rattle.meaning.specs.Truth.{clause_true}
use Rattle.meaning.specs.Values.{Reading, Fits}
use Rattle.referee.specs.Questions.{Asked, Posed}
use Rattle.referee.specs.declared.ruling.Ruling.{Ruling}
use Rattle.referee.specs.declared.ruling.Ruling.TheVariants.{Yes, Unmet}

-- The rule names that a referee knows, and its ruling on each question.
pub record Meaning : Type 0 where
  pub knows : List ℕ → Bool
  pub judge : Asked → Ruling

-- Each fitting reading that makes all premises true makes the clause true.
abbrev pub Entailed : List Name → Asked → Type 0
Entailed names q =
    (ρ : Reading) → Fits names ρ → list_all (clause_true ρ q.terms) q.premises ≡ true → clause_true ρ q.terms q.clause ≡ true

-- The law of a referee: what it says yes to is entailed.
abbrev pub Lawful : Meaning → Type 0
Lawful m = (names : List Name) (q : Asked) → Proper names q.terms → Posed q → m.judge q ≡ Yes → Entailed names q

-- A name that a referee does not know is judged as a rule that is not met.
abbrev pub Modest : Meaning → Type 0
Modest m = (q : Asked) → m.knows q.rule ≡ false → m.judge q ≡ Unmet

-- A pair knows what either knows; the left one judges what it knows, the right one all else.
abbrev pub pair : Meaning → Meaning → Meaning
pair l r = record {
  knows = λ name. l.knows name || r.knows name;
  judge = λ q. cond (l.knows q.rule) (l.judge q) (r.judge q);
}

-- Knows no name.
abbrev pub nothing : Meaning
nothing = record { knows = λ name. false; judge = λ q. Unmet }

-- A pair of referees that keep the law keeps it.
abbrev pub PairsKeep : Type 0
PairsKeep = (l r : Meaning) → Lawful l → Lawful r → Lawful (pair l r)
