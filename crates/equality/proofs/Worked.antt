-- The cases, worked by one computed test.
use Rattle.entries.specs.declared.entry.Term.{Term}
use Rattle.std.proofs.Common.{◌≡◌, ℕ, ◌<◌, true, List, [], ◌∷◌, ◌++◌, length, refl, arith}
use Rattle.entries.specs.declared.entry.Head.TheVariants as head
use Rattle.meaning.specs.Proper.{Proper, well_formed}
use Rattle.meaning.proofs.Propers.{proper_push}
use Rattle.referee.specs.Cases.{Worked}
use Rattle.referee.specs.Samples.{a, nought, p_and_q}
use Rattle.referee.specs.Samples as sample
use Rattle.referee.proofs.Samples.{samples_proper}
use Rattle.referee.proofs.Worked.{all_worked}
use Rattle.equality.specs.Cases.{cases, terms, own}
use Rattle.equality.specs.Meaning.{equality}

pub cases_worked : Worked equality cases
cases_worked = all_worked equality cases refl

-- a proper list stays proper with the equality of one of its terms with itself
own_proper : (ts : List Term) (n : ℕ) → Proper sample.names ts → n < length ts → well_formed sample.names ts head.Equal (n ∷ n ∷ []) ≡ true → Proper sample.names (ts ++ own n ∷ [])
own_proper ts n ok h formed = proper_push sample.names ts (own n) ok (record { before = (h, (h, tt)); few = omega arith; formed = formed; given = refl })

pub terms_proper : Proper sample.names terms
terms_proper =
    own_proper ((sample.terms ++ own a ∷ []) ++ own nought ∷ []) p_and_q
    (own_proper (sample.terms ++ own a ∷ []) nought (own_proper sample.terms a samples_proper (omega arith) refl) (omega arith) refl) (omega arith) refl
