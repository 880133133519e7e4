-- What the table of sorts says of arguments.
use Rattle.std.proofs.Common.{◌≡◌, ℕ, true, List, [], ◌∷◌, map, length, Decides, sym, refl, ap, ◌∙◌, arith}
use Rattle.std.proofs.lemmas.Bool.{and_parts, and_from, false≢true}
use Rattle.entries.specs.declared.entry.Sort.{Sort}
use Rattle.entries.specs.Equality.{same_sort}
use Rattle.entries.proofs.Alike.{same_sort_decides}
use Rattle.meaning.specs.Sorts.{same_sorts, twins}

same_sorts_lem : (ss ts : List Sort) → same_sorts ss ts ≡ true → ss ≡ ts
same_sorts_lem [] [] e = refl
same_sorts_lem [] (t ∷ ts) e = absurd (false≢true e)
same_sorts_lem (s ∷ ss) [] e = absurd (false≢true e)
same_sorts_lem (s ∷ ss) (t ∷ ts) e =
    let p = and_parts (same_sort s t) (same_sorts ss ts) e in
    let a = (same_sort_decides s t).0 p.0 in
    let b = same_sorts_lem ss ts p.1 in
    cc

own_sorts : (ss : List Sort) → same_sorts ss ss ≡ true
own_sorts [] = refl
own_sorts (s ∷ ss) = and_from _ _ ((same_sort_decides s s).1 refl) (own_sorts ss)

pub same_sorts_decides : (ss ts : List Sort) → Decides (same_sorts ss ts) (ss ≡ ts)
same_sorts_decides ss ts = (same_sorts_lem ss ts, λ e. ap (same_sorts ss) (sym e) ∙ own_sorts ss)

-- ---- how many arguments there are, from their sorts
pub none_from_map : {X : Type 0} (f : ℕ → X) (ns : List ℕ) → map f ns ≡ [] → ns ≡ []
none_from_map f [] e = refl
none_from_map f (a ∷ ns) e = absurd (let z = ap length e in omega arith)

pub one_from_map : {X : Type 0} (f : ℕ → X) (ns : List ℕ) (x : X) → map f ns ≡ x ∷ [] → (a : ℕ) × (ns ≡ a ∷ [])
one_from_map f [] x e = absurd (let z = ap length e in omega arith)
one_from_map f (a ∷ []) x e = (a, refl)
one_from_map f (a ∷ b ∷ ns) x e = absurd (let z = ap length e in omega arith)

pub two_from_map : {X : Type 0} (f : ℕ → X) (ns : List ℕ) (x y : X) → map f ns ≡ x ∷ y ∷ [] → (a b : ℕ) × (ns ≡ a ∷ b ∷ [])
two_from_map f [] x y e = absurd (let z = ap length e in omega arith)
two_from_map f (a ∷ []) x y e = absurd (let z = ap length e in omega arith)
two_from_map f (a ∷ b ∷ []) x y e = (a, b, refl)
two_from_map f (a ∷ b ∷ c ∷ ns) x y e = absurd (let z = ap length e in omega arith)

-- two of one sort
pub twins_from_map : (f : ℕ → Sort) (ns : List ℕ) → twins (map f ns) ≡ true → (a b : ℕ) × (ns ≡ a ∷ b ∷ []) × (f a ≡ f b)
twins_from_map f [] e = absurd (false≢true e)
twins_from_map f (a ∷ []) e = absurd (false≢true e)
twins_from_map f (a ∷ b ∷ []) e = (a, b, refl, (same_sort_decides (f a) (f b)).0 e)
twins_from_map f (a ∷ b ∷ c ∷ ns) e = absurd (false≢true e)
