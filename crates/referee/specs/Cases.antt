-- Cases that are worked by the definitions alone.
use Rattle.std.specs.Prelude.{◌≡◌, List}
use Rattle.std.specs.List.{AllByRecursion}
use Rattle.referee.specs.Meaning.{Meaning}
use Rattle.referee.specs.Questions.{Asked}
use Rattle.referee.specs.declared.ruling.Ruling.{Ruling}

-- A question, and the ruling that it gets.
pub record Case : Type 0 where
  pub question : Asked
  pub ruling : Ruling

-- Each case of a list gets its ruling.
abbrev pub Worked : Meaning → List Case → Type 0
Worked m cases = AllByRecursion (λ (c : Case). m.judge c.question ≡ c.ruling) cases
