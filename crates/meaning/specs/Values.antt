-- Readings, and the values that they give to terms.
use Rattle.std.specs.Prelude.{◌≡◌, ℕ, ◌<◌, Bool, false, cond, not, ◌||◌, ◌⊎◌, List, [], ◌∷◌, ◌++◌, map, length, get_or, ℤ, pos, negsuc, ◌+ℤ◌, ◌-ℤ◌, ◌*ℤ◌, neg_ℤ, fold, ◌==◌, int_le, int_lt, slice_index_or}
use Rattle.std.specs.List.{list_any, list_all}
use Rattle.entries.specs.declared.entry.Head.{Head}
use Rattle.entries.specs.declared.entry.Head.TheVariants as head
use Rattle.entries.specs.declared.entry.Name.{Name}
use Rattle.entries.specs.declared.entry.Sort.TheVariants as sort
use Rattle.entries.specs.declared.entry.Term.{Term}
use Rattle.meaning.specs.Sorts.{name_at}

-- A reading gives each declared name, by its number, a whole number for each list of whole numbers.
abbrev pub Reading : Type 0
Reading = ℕ → List ℤ → ℤ

abbrev pub Bit : ℤ → Type 0
Bit v = (v ≡ pos 0) ⊎ (v ≡ pos 1)

-- A reading fits declared names where each that gives Bool is 0 or 1 on every list of its length.
abbrev pub Fits : List Name → Reading → Type 0
Fits names ρ =
    (f : ℕ) → f < length names → (name_at names f).gives ≡ sort.Bool →
    (vs : List ℤ) → length vs ≡ length (name_at names f).takes → Bit (ρ f vs)

abbrev pub same_value : ℤ → ℤ → Bool
same_value (pos a) (pos b) = a == b
same_value (pos a) (negsuc b) = false
same_value (negsuc a) (pos b) = false
same_value (negsuc a) (negsuc b) = a == b

-- A term is true where its value is 1.
abbrev pub holds : ℤ → Bool
holds v = same_value v (pos 1)

-- 1 where the stated fact holds, 0 elsewhere.
abbrev pub fact : Bool → ℤ
fact b = cond b (pos 1) (pos 0)

abbrev pub first : List ℤ → ℤ
first vs = slice_index_or vs 0 (pos 0)

abbrev pub second : List ℤ → ℤ
second vs = slice_index_or vs 1 (pos 0)

abbrev pub sum : List ℤ → ℤ
sum [] = pos 0
sum (v ∷ vs) = v +ℤ sum vs

-- The negative of one number, the difference of two.
abbrev pub difference : List ℤ → ℤ
difference [] = pos 0
difference (v ∷ []) = neg_ℤ v
difference (v ∷ w ∷ ws) = v -ℤ w

-- The value of a term with a head, from its arguments' values.
abbrev pub value : Reading → Head → List ℤ → ℤ
value ρ head.True vs = pos 1
value ρ head.False vs = pos 0
value ρ head.Not vs = fact (not (holds (first vs)))
value ρ head.And vs = fact (list_all holds vs)
value ρ head.Or vs = fact (list_any holds vs)
value ρ head.Implies vs = fact (not (holds (first vs)) || holds (second vs))
value ρ head.Equal vs = fact (same_value (first vs) (second vs))
value ρ head.Le vs = fact (int_le (first vs) (second vs))
value ρ head.Lt vs = fact (int_lt (first vs) (second vs))
value ρ head.Ge vs = fact (int_le (second vs) (first vs))
value ρ head.Gt vs = fact (int_lt (second vs) (first vs))
value ρ head.Plus vs = sum vs
value ρ head.Minus vs = difference vs
value ρ head.Times vs = first vs *ℤ second vs
value ρ (head.Numeral n) vs = pos n
value ρ (head.Declared f) vs = ρ f vs

-- What each term gets from its number, itself and what its arguments got: a fold from the left.
abbrev pub next : {X : Type 0} → X → (ℕ → Term → List X → X) → List X → Term → List X
next none f done t = done ++ f (length done) t (map (λ n. get_or done n none) t.args) ∷ []

abbrev pub built : {X : Type 0} → X → (ℕ → Term → List X → X) → List Term → List X
built none f terms = fold (next none f) [] terms

-- The values of the terms of a list, each from those before it.
abbrev pub values : Reading → List Term → List ℤ
values ρ terms = built (pos 0) (λ n t vs. value ρ t.head vs) terms

abbrev pub value_of : Reading → List Term → ℕ → ℤ
value_of ρ terms n = slice_index_or (values ρ terms) n (pos 0)

-- Whether a reading makes a term true.
abbrev pub is_true : Reading → List Term → ℕ → Bool
is_true ρ terms n = holds (value_of ρ terms n)
