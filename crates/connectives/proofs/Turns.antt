-- What a search through the arguments to pick from answers.
use Rattle.std.proofs.Common.{◌≡◌, ℕ, true, ◌&&◌, sym, ap, ◌∙◌}
use Rattle.meaning.specs.Proper.{term_at}
use Rattle.referee.specs.Questions.{Asked}
use Rattle.connectives.specs.Rules.{connects, choices, some_below, meets_at, fits_as}
use Rattle.connectives.specs.Table.{Rule}

module _ (q : Asked) (r : Rule) (t n : ℕ) (good : true ≡ connects r.connective q.terms t) (e : n ≡ choices r.clause (term_at q.terms t).args) where
  pub fits_is : fits_as q r t ≡ some_below n (meets_at q r t)
  fits_is = ap (λ b. b && some_below (choices r.clause (term_at q.terms t).args) (meets_at q r t)) (sym good) ∙ ap (λ m. some_below m (meets_at q r t)) (sym e)
