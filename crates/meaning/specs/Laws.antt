-- What the values of terms are worth, and what keeps a list proper.
use Rattle.std.specs.Prelude.{◌≡◌, ℕ, ◌<◌, List, [], ◌∷◌, ◌++◌, length, pos, Decides, ◌≢◌, slice_index_or}
use Rattle.entries.specs.declared.entry.Literal.{Literal}
use Rattle.entries.specs.declared.entry.Name.{Name}
use Rattle.entries.specs.declared.entry.Sort.TheVariants as sort
use Rattle.entries.specs.declared.entry.Term.{Term}
use Rattle.entries.specs.Clauses.{holds_literal, clause_from}
use Rattle.meaning.specs.Proper.{Proper, ProperAt, sort_at}
use Rattle.meaning.specs.Values.{Reading, Fits, Bit, value_of, is_true}

-- A term is true exactly where its value is 1.
abbrev pub TrueAtOne : Type 0
TrueAtOne = (ρ : Reading) (terms : List Term) (n : ℕ) → Decides (is_true ρ terms n) (value_of ρ terms n ≡ pos 1)

-- More terms change no earlier value.
abbrev pub ValuesKept : Type 0
ValuesKept = (ρ : Reading) (terms more : List Term) (n : ℕ) → n < length terms → value_of ρ (terms ++ more) n ≡ value_of ρ terms n

-- Under a fitting reading a Bool term of a proper list is worth 0 or 1.
abbrev pub BoolBits : Type 0
BoolBits =
    (ρ : Reading) (names : List Name) (terms : List Term) → Proper names terms → Fits names ρ →
    (n : ℕ) → n < length terms → sort_at terms n ≡ sort.Bool → Bit (value_of ρ terms n)

-- A proper list stays proper where a proper term goes to its end.
abbrev pub ProperKept : Type 0
ProperKept =
    (names : List Name) (terms : List Term) (t : Term) → Proper names terms → ProperAt names terms (length terms) t →
    Proper names (terms ++ t ∷ [])

-- A proper list stays proper where more names are declared.
abbrev pub NamesKept : Type 0
NamesKept = (names more : List Name) (terms : List Term) → Proper names terms → Proper (names ++ more) terms

-- A clause has the literals that were written, each of them once.
pub record AsWritten (written clause : List Literal) : Type 0 where
  pub same : (l : Literal) → holds_literal clause l ≡ holds_literal written l
  pub once : (i j : ℕ) (d : Literal) → i < j → j < length clause → slice_index_or clause i d ≢ slice_index_or clause j d

abbrev pub ClausesWritten : Type 0
ClausesWritten = (written : List Literal) → AsWritten written (clause_from written)
