-- The literal of a term, and where literals and clauses are true.
use Rattle.std.specs.Prelude.{◌≡◌, ℕ, Bool, false, cond, not, List, slice_index_or}
use Rattle.std.specs.List.{list_any}
use Rattle.entries.specs.declared.entry.Head.TheVariants as head
use Rattle.entries.specs.declared.entry.Literal.{Literal}
use Rattle.entries.specs.declared.entry.Term.{Term}
use Rattle.entries.specs.Clauses.{complement_of}
use Rattle.entries.specs.Equality.{same_kind}
use Rattle.meaning.specs.Values.{Reading, built, is_true}

abbrev pub positive : ℕ → Literal
positive n = record { negative = false; term = n }

-- The literals of the terms of a list: that of a `not` is the complement of its argument's, any other term is its own, positive.
abbrev pub literals_of : List Term → List Literal
literals_of terms = built (positive 0) (λ n t ls. cond (same_kind t.head head.Not) (complement_of (slice_index_or ls 0 (positive 0))) (positive n)) terms

abbrev pub literal_of : List Term → ℕ → Literal
literal_of terms n = slice_index_or (literals_of terms) n (positive 0)

-- The other truth value under a negative sign.
abbrev pub signed : Bool → Bool → Bool
signed negative b = cond negative (not b) b

-- A negative literal is true where its term is not.
abbrev pub literal_true : Reading → List Term → Literal → Bool
literal_true ρ terms l = signed l.negative (is_true ρ terms l.term)

-- A clause is true where one of its literals is.
abbrev pub clause_true : Reading → List Term → List Literal → Bool
clause_true ρ terms c = list_any (literal_true ρ terms) c

-- Under every reading a literal is true exactly where the term with the number n is.
abbrev pub LiteralMeans : List Term → Literal → ℕ → Type 0
LiteralMeans terms l n = (ρ : Reading) → literal_true ρ terms l ≡ is_true ρ terms n

-- Under every reading a clause is true exactly where one of the terms with these numbers is.
abbrev pub ClauseMeans : List Term → List Literal → List ℕ → Type 0
ClauseMeans terms c ns = (ρ : Reading) → clause_true ρ terms c ≡ list_any (is_true ρ terms) ns
