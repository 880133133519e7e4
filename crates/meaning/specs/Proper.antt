-- When a list of terms is proper: order, counts and sorts.
use Rattle.std.specs.Prelude.{◌≡◌, ℕ, ◌<◌, ◌≤◌, Bool, true, false, cond, ◌&&◌, ◌||◌, List, [], ◌∷◌, map, length, slice_index_or}
use Rattle.std.specs.List.{AllByRecursion}
use Rattle.entries.specs.declared.entry.Head.{Head}
use Rattle.entries.specs.declared.entry.Head.TheVariants as head
use Rattle.entries.specs.declared.entry.Name.{Name}
use Rattle.entries.specs.declared.entry.Sort.{Sort}
use Rattle.entries.specs.declared.entry.Sort.TheVariants as sort
use Rattle.entries.specs.declared.entry.Term.{Term}
use Rattle.entries.specs.Equality.{same_kind}
use Rattle.meaning.specs.Sorts.{takes_sorts, gives_sort}

abbrev pub no_term : Term
no_term = record { head = head.True; sort = sort.Bool; args = [] }

-- The term with a number, and its sort.
abbrev pub term_at : List Term → ℕ → Term
term_at terms n = slice_index_or terms n no_term

abbrev pub sort_at : List Term → ℕ → Sort
sort_at terms n = (term_at terms n).sort

abbrev pub is_numeral : List Term → ℕ → Bool
is_numeral terms n = same_kind (term_at terms n).head (head.Numeral 0)

-- One numeral alone.
abbrev pub one_numeral : List Term → List ℕ → Bool
one_numeral terms [] = false
one_numeral terms (n ∷ []) = is_numeral terms n
one_numeral terms (n ∷ m ∷ ns) = false

-- A factor is a numeral or `-` of one numeral.
abbrev pub is_factor : List Term → ℕ → Bool
is_factor terms n = is_numeral terms n || (same_kind (term_at terms n).head head.Minus && one_numeral terms (term_at terms n).args)

abbrev pub factor_first : List Term → List ℕ → Bool
factor_first terms [] = false
factor_first terms (n ∷ ns) = is_factor terms n

-- `*` has a factor first.
abbrev pub scales : List Term → Head → List ℕ → Bool
scales terms h args = cond (same_kind h head.Times) (factor_first terms args) true

-- Whether a head and arguments make a term: the head takes their sorts, and `*` has a factor first.
abbrev pub well_formed : List Name → List Term → Head → List ℕ → Bool
well_formed names terms h args = takes_sorts names h (map (sort_at terms) args) && scales terms h args

-- The term t may stand at the place i of a list: its arguments stand before it and make a term with its head, whose sort it has.
pub record ProperAt (names : List Name) (terms : List Term) (i : ℕ) (t : Term) : Type 0 where
  pub before : AllByRecursion (λ n. n < i) t.args
  pub few : length t.args ≤ 64
  pub formed : well_formed names terms t.head t.args ≡ true
  pub given : t.sort ≡ gives_sort names t.head

-- Each term of the list may stand at its place.
abbrev pub Proper : List Name → List Term → Type 0
Proper names terms = (i : ℕ) → i < length terms → ProperAt names terms i (term_at terms i)

-- The terms are proper under some declared names.
abbrev pub Formed : List Term → Type 0
Formed terms = (names : List Name) × Proper names terms
