-- `some` and `every`: what they say of elements, and the steps of a loop.
use Rattle.std.proofs.Common.{◌≡◌, ℕ, zero, suc, ◌+◌, ◌<◌, ◌≤◌, Bool, true, false, ◌&&◌, ◌||◌, List, [], ◌∷◌, ◌++◌, length, get_or, drop, sym, refl, ap, ◌∙◌, inl, inr, arith}
use Rattle.std.specs.List.{flat_map, AllByRecursion, list_any, list_all}
use Rattle.std.proofs.lemmas.List.{at_drop_more, at_drop_all}
use Rattle.std.proofs.lemmas.Bool.{and_parts, and_cases, or_cases, or_parts, false≢true, true≢false}
use Rattle.meaning.proofs.Clauses.{some_append}

module _ {X : Type 0} (f : X → Bool) where
  pub some_where : (xs : List X) (d : X) → list_any f xs ≡ true → (k : ℕ) × (k < length xs) × (f (get_or xs k d) ≡ true)
  some_where [] d e = absurd (false≢true e)
  some_where (x ∷ xs) d e = elim (or_cases (f x) (list_any f xs) e) [
    | inl h ↦ (0, omega arith, h)
    | inr h ↦ let w = some_where xs d h in (suc w.0, omega (arith, w.1), w.2)
  ]

  pub every_at : (xs : List X) (k : ℕ) (d : X) → k < length xs → list_all f xs ≡ true → f (get_or xs k d) ≡ true
  every_at [] k d h e = absurd (omega arith)
  every_at (x ∷ xs) zero d h e = (and_parts (f x) (list_all f xs) e).0
  every_at (x ∷ xs) (suc k) d h e = every_at xs k d (omega arith) (and_parts (f x) (list_all f xs) e).1

  pub every_not : (xs : List X) (d : X) → list_all f xs ≡ false → (k : ℕ) × (k < length xs) × (f (get_or xs k d) ≡ false)
  every_not [] d e = absurd (true≢false e)
  every_not (x ∷ xs) d e = elim (and_cases (f x) (list_all f xs) e) [
    | inl h ↦ (0, omega arith, h)
    | inr h ↦ let w = every_not xs d h in (suc w.0, omega (arith, w.1), w.2)
  ]

  pub every_all : (xs : List X) → list_all f xs ≡ true → AllByRecursion (λ x. f x ≡ true) xs
  every_all [] e = tt
  every_all (x ∷ xs) e = let p = and_parts (f x) (list_all f xs) e in (p.0, every_all xs p.1)

  pub some_none_all : (xs : List X) → list_any f xs ≡ false → AllByRecursion (λ x. f x ≡ false) xs
  some_none_all [] e = tt
  some_none_all (x ∷ xs) e = let p = or_parts (f x) (list_any f xs) e in (p.0, some_none_all xs p.1)

  and_assoc : (a b c : Bool) → (a && (b && c)) ≡ ((a && b) && c)
  and_assoc true b c = refl
  and_assoc false b c = refl

  pub every_append : (xs ys : List X) → list_all f (xs ++ ys) ≡ (list_all f xs && list_all f ys)
  every_append [] ys = refl
  every_append (x ∷ xs) ys = ap (λ b. f x && b) (every_append xs ys) ∙ and_assoc (f x) (list_all f xs) (list_all f ys)

-- ---- the steps of a loop
module _ {X : Type 0} (f : X → Bool) (xs : List X) (i : ℕ) where
  pub some_found : (d : X) → i < length xs → list_any f xs ≡ list_any f (drop i xs) → true ≡ f (get_or xs i d) → true ≡ list_any f xs
  some_found d h inv t =
      let e : list_any f (drop i xs) ≡ (f (get_or xs i d) || list_any f (drop (i + 1) xs)) = at_drop_more (list_any f) xs i d h in
      sym (inv ∙ e ∙ ap (λ b. b || list_any f (drop (i + 1) xs)) (sym t))

  pub some_next : (d : X) → i < length xs → list_any f xs ≡ list_any f (drop i xs) → false ≡ f (get_or xs i d) → list_any f xs ≡ list_any f (drop (i + 1) xs)
  some_next d h inv t =
      let e : list_any f (drop i xs) ≡ (f (get_or xs i d) || list_any f (drop (i + 1) xs)) = at_drop_more (list_any f) xs i d h in
      inv ∙ e ∙ ap (λ b. b || list_any f (drop (i + 1) xs)) (sym t)

  pub some_none : length xs ≤ i → list_any f xs ≡ list_any f (drop i xs) → false ≡ list_any f xs
  some_none h inv = sym (inv ∙ at_drop_all (list_any f) xs i h)

  pub every_broken : (d : X) → i < length xs → list_all f xs ≡ list_all f (drop i xs) → false ≡ f (get_or xs i d) → false ≡ list_all f xs
  every_broken d h inv t =
      let e : list_all f (drop i xs) ≡ (f (get_or xs i d) && list_all f (drop (i + 1) xs)) = at_drop_more (list_all f) xs i d h in
      sym (inv ∙ e ∙ ap (λ b. b && list_all f (drop (i + 1) xs)) (sym t))

  pub every_next : (d : X) → i < length xs → list_all f xs ≡ list_all f (drop i xs) → true ≡ f (get_or xs i d) → list_all f xs ≡ list_all f (drop (i + 1) xs)
  every_next d h inv t =
      let e : list_all f (drop i xs) ≡ (f (get_or xs i d) && list_all f (drop (i + 1) xs)) = at_drop_more (list_all f) xs i d h in
      inv ∙ e ∙ ap (λ b. b && list_all f (drop (i + 1) xs)) (sym t)

  pub every_done : length xs ≤ i → list_all f xs ≡ list_all f (drop i xs) → true ≡ list_all f xs
  every_done h inv = sym (inv ∙ at_drop_all (list_all f) xs i h)

-- `some` and `every` over a joined list
module _ {X Y : Type 0} (f : X → Bool) (g : Y → List X) where
  pub some_joined : (ys : List Y) → list_any f (flat_map g ys) ≡ list_any (λ y. list_any f (g y)) ys
  some_joined [] = refl
  some_joined (y ∷ ys) = some_append f (g y) (flat_map g ys) ∙ ap (λ b. list_any f (g y) || b) (some_joined ys)

  pub every_joined : (ys : List Y) → list_all f (flat_map g ys) ≡ list_all (λ y. list_all f (g y)) ys
  every_joined [] = refl
  every_joined (y ∷ ys) = every_append f (g y) (flat_map g ys) ∙ ap (λ b. list_all f (g y) && b) (every_joined ys)
