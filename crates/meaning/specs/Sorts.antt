-- Which sorts a head takes, and which sort it gives.
use Rattle.std.specs.Prelude.{ℕ, Bool, true, false, ◌&&◌, ◌||◌, List, [], ◌∷◌, length, nat_le, nat_lt, slice_index_or}
use Rattle.std.specs.List.{list_all}
use Rattle.entries.specs.declared.entry.Head.{Head}
use Rattle.entries.specs.declared.entry.Head.TheVariants as head
use Rattle.entries.specs.declared.entry.Name.{Name}
use Rattle.entries.specs.declared.entry.Sort.{Sort}
use Rattle.entries.specs.declared.entry.Sort.TheVariants as sort
use Rattle.entries.specs.Equality.{same_sort}

-- Two lists of sorts are the same.
abbrev pub same_sorts : List Sort → List Sort → Bool
same_sorts [] [] = true
same_sorts [] (b ∷ bs) = false
same_sorts (a ∷ rest) [] = false
same_sorts (a ∷ rest) (b ∷ bs) = same_sort a b && same_sorts rest bs

-- Each is the sort s.
abbrev pub all : Sort → List Sort → Bool
all s ss = list_all (λ a. same_sort a s) ss

-- Two or more, each of them the sort s.
abbrev pub many : Sort → List Sort → Bool
many s ss = nat_le 2 (length ss) && all s ss

-- Two of one sort.
abbrev pub twins : List Sort → Bool
twins [] = false
twins (a ∷ []) = false
twins (a ∷ b ∷ []) = same_sort a b
twins (a ∷ b ∷ c ∷ ss) = false

abbrev pub no_name : Name
no_name = record { word = []; takes = []; gives = sort.Bool }

-- The declared name with a number.
abbrev pub name_at : List Name → ℕ → Name
name_at names f = slice_index_or names f no_name

-- Whether a head takes arguments of these sorts.
abbrev pub takes_sorts : List Name → Head → List Sort → Bool
takes_sorts names head.True ss = same_sorts ss []
takes_sorts names head.False ss = same_sorts ss []
takes_sorts names head.Not ss = same_sorts ss (sort.Bool ∷ [])
takes_sorts names head.And ss = many sort.Bool ss
takes_sorts names head.Or ss = many sort.Bool ss
takes_sorts names head.Implies ss = same_sorts ss (sort.Bool ∷ sort.Bool ∷ [])
takes_sorts names head.Equal ss = twins ss
takes_sorts names head.Le ss = same_sorts ss (sort.Int ∷ sort.Int ∷ [])
takes_sorts names head.Lt ss = same_sorts ss (sort.Int ∷ sort.Int ∷ [])
takes_sorts names head.Ge ss = same_sorts ss (sort.Int ∷ sort.Int ∷ [])
takes_sorts names head.Gt ss = same_sorts ss (sort.Int ∷ sort.Int ∷ [])
takes_sorts names head.Plus ss = many sort.Int ss
takes_sorts names head.Minus ss = same_sorts ss (sort.Int ∷ []) || same_sorts ss (sort.Int ∷ sort.Int ∷ [])
takes_sorts names head.Times ss = same_sorts ss (sort.Int ∷ sort.Int ∷ [])
takes_sorts names (head.Numeral n) ss = same_sorts ss []
takes_sorts names (head.Declared f) ss = nat_lt f (length names) && same_sorts ss (name_at names f).takes

-- The sort that a head gives.
abbrev pub gives_sort : List Name → Head → Sort
gives_sort names head.True = sort.Bool
gives_sort names head.False = sort.Bool
gives_sort names head.Not = sort.Bool
gives_sort names head.And = sort.Bool
gives_sort names head.Or = sort.Bool
gives_sort names head.Implies = sort.Bool
gives_sort names head.Equal = sort.Bool
gives_sort names head.Le = sort.Bool
gives_sort names head.Lt = sort.Bool
gives_sort names head.Ge = sort.Bool
gives_sort names head.Gt = sort.Bool
gives_sort names head.Plus = sort.Int
gives_sort names head.Minus = sort.Int
gives_sort names head.Times = sort.Int
gives_sort names (head.Numeral n) = sort.Int
gives_sort names (head.Declared f) = (name_at names f).gives
