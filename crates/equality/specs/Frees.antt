-- No premises.
use Rattle.std.specs.Prelude.{◌≡◌, List, [], ◌∷◌, length, Decides, refl}
use Rattle.std.proofs.Common.{ap, arith}
use Rattle.std.proofs.lemmas.Bool.{false≢true}
use Rattle.equality.specs.Meaning.{none}

pub none_decides : {X : Type 0} (xs : List X) → Decides (none xs) (xs ≡ [])
none_decides [] = (λ e. refl, λ e. refl)
none_decides (x ∷ xs) = (λ e. absurd (false≢true e), λ e. absurd (let z = ap length e in omega arith))
