-- What stands in a list, and what `some` and `every` say of it.
use Rattle.std.proofs.Common.{◌≡◌, ℕ, zero, suc, ◌<◌, Bool, true, false, ◌⊎◌, List, [], ◌∷◌, ◌++◌, length, refl, inl, inr, sym, ap, subst, ◌∙◌, arith}
use Rattle.std.specs.Prelude.{filter, slice_index_or}
use Rattle.std.specs.List.{ContainsAt as Has, flat_map, list_any, list_all}
use Rattle.std.proofs.ByRecursion.{has_append_left, has_append_right}
use Rattle.std.proofs.lemmas.Bool.{cases_Bool, and_parts, and_from, or_cases, or_left, or_right, both_ways, cond-true, cond-false, false≢true}

module _ {X : Type 0} where
  pub has_none : (x : X) → Has [] x → ⊥
  has_none x h = omega (arith, h.1)

  pub has_first : (x : X) (xs : List X) → Has (x ∷ xs) x
  has_first x xs = (0, omega arith, λ d. refl)

  pub has_on : (x : X) (xs : List X) (y : X) → Has xs y → Has (x ∷ xs) y
  has_on x xs y h = (suc h.0, omega (arith, h.1), h.2)

  pub has_cases : (x : X) (xs : List X) (y : X) → Has (x ∷ xs) y → (x ≡ y) ⊎ Has xs y
  has_cases x xs y h = go h.0 h.1 h.2
    where
      go : (k : ℕ) → k < length (x ∷ xs) → ((d : X) → slice_index_or (x ∷ xs) k d ≡ y) → (x ≡ y) ⊎ Has xs y
      go zero b f = inl (f x)
      go (suc k) b f = inr (k, omega arith, f)

  pub has_append_cases : (xs ys : List X) (y : X) → Has (xs ++ ys) y → Has xs y ⊎ Has ys y
  has_append_cases [] ys y h = inr h
  has_append_cases (x ∷ xs) ys y h = elim (has_cases x (xs ++ ys) y h) [
    | inl e ↦ inl (subst (Has (x ∷ xs)) e (has_first x xs))
    | inr k ↦ elim (has_append_cases xs ys y k) [ inl a ↦ inl (has_on x xs y a) | inr b ↦ inr b ]
  ]

  module _ (f : X → Bool) where
    pub some_has : (xs : List X) → list_any f xs ≡ true → (x : X) × Has xs x × (f x ≡ true)
    some_has [] e = absurd (false≢true e)
    some_has (x ∷ xs) e = elim (or_cases (f x) (list_any f xs) e) [
      | inl t ↦ (x, has_first x xs, t)
      | inr t ↦ let w = some_has xs t in (w.0, has_on x xs w.0 w.1, w.2)
    ]

    pub has_some : (xs : List X) (x : X) → Has xs x → f x ≡ true → list_any f xs ≡ true
    has_some [] x h t = absurd (omega (arith, h.1))
    has_some (y ∷ xs) x h t = elim (has_cases y xs x h) [
      | inl e ↦ or_left (f y) (list_any f xs) (ap f e ∙ t)
      | inr k ↦ or_right (f y) (list_any f xs) (has_some xs x k t)
    ]

    pub some_not : (xs : List X) → list_any f xs ≡ false → (x : X) → Has xs x → f x ≡ false
    some_not xs e x h = elim (cases_Bool (f x)) [
      | inl t ↦ absurd (both_ways (list_any f xs) e (has_some xs x h t))
      | inr n ↦ n
    ]

    pub every_has : (xs : List X) → list_all f xs ≡ true → (x : X) → Has xs x → f x ≡ true
    every_has [] e x h = absurd (omega (arith, h.1))
    every_has (y ∷ xs) e x h = elim (has_cases y xs x h) [
      | inl q ↦ ap f (sym q) ∙ (and_parts (f y) (list_all f xs) e).0
      | inr k ↦ every_has xs (and_parts (f y) (list_all f xs) e).1 x k
    ]

    pub has_every : (xs : List X) → ((x : X) → Has xs x → f x ≡ true) → list_all f xs ≡ true
    has_every [] h = refl
    has_every (x ∷ xs) h = and_from (f x) (list_all f xs) (h x (has_first x xs)) (has_every xs (λ y k. h y (has_on x xs y k)))

    pub has_kept : (xs : List X) (x : X) → Has xs x → f x ≡ true → Has (filter f xs) x
    has_kept [] x h t = absurd (omega (arith, h.1))
    has_kept (y ∷ xs) x h t = elim (has_cases y xs x h) [
      | inl e ↦ subst (λ (zs : List X). Has zs x) (sym (cond-true (f y) (y ∷ filter f xs) (filter f xs) (ap f e ∙ t))) (subst (Has (y ∷ filter f xs)) e (has_first y (filter f xs)))
      | inr k ↦ elim (cases_Bool (f y)) [
        | inl p ↦ subst (λ (zs : List X). Has zs x) (sym (cond-true (f y) (y ∷ filter f xs) (filter f xs) p)) (has_on y (filter f xs) x (has_kept xs x k t))
        | inr n ↦ subst (λ (zs : List X). Has zs x) (sym (cond-false (f y) (y ∷ filter f xs) (filter f xs) n)) (has_kept xs x k t)
      ]
    ]

    pub kept_has : (xs : List X) (x : X) → Has (filter f xs) x → Has xs x × (f x ≡ true)
    kept_has [] x h = absurd (omega (arith, h.1))
    kept_has (y ∷ xs) x h = elim (cases_Bool (f y)) [
      | inl p ↦ elim (has_cases y (filter f xs) x (subst (λ (zs : List X). Has zs x) (cond-true (f y) (y ∷ filter f xs) (filter f xs) p) h)) [
        | inl e ↦ (subst (Has (y ∷ xs)) e (has_first y xs), ap f (sym e) ∙ p)
        | inr k ↦ let w = kept_has xs x k in (has_on y xs x w.0, w.1)
      ]
      | inr n ↦ let w = kept_has xs x (subst (λ (zs : List X). Has zs x) (cond-false (f y) (y ∷ filter f xs) (filter f xs) n) h) in (has_on y xs x w.0, w.1)
    ]

-- ---- lists of lists, joined
pub has_joined : {X : Type 0} (xss : List (List X)) (xs : List X) (x : X) → Has xss xs → Has xs x → Has (flat_map (λ (ys : List X). ys) xss) x
has_joined [] xs x h k = absurd (omega (arith, h.1))
has_joined {X} (ys ∷ yss) xs x h k = elim (has_cases ys yss xs h) [
  | inl e ↦ has_append_left ys (flat_map (λ (ys : List X). ys) yss) x (subst (λ (zs : List X). Has zs x) (sym e) k)
  | inr g ↦ has_append_right ys (flat_map (λ (ys : List X). ys) yss) x (has_joined yss xs x g k)
]
