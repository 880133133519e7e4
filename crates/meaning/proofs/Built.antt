-- What a fold from the left gives each entry.
use Rattle.std.proofs.Common.{◌≡◌, ℕ, ◌+◌, ◌<◌, List, [], ◌∷◌, ◌++◌, map, length, get_or, take, drop, fold, sym, refl, ap, ◌∙◌, arith}
use Rattle.std.specs.List.{AllByRecursion}
use Rattle.std.proofs.lemmas.List.{length_push, length-take-le, get_or_append_left, get_or_push, take-append-drop, drop_more}
use Rattle.entries.specs.declared.entry.Term.{Term}
use Rattle.meaning.specs.Proper.{no_term, term_at}
use Rattle.meaning.specs.Values.{next, built}

pub map_same : {X : Type 0} (f g : ℕ → X) (P : ℕ → Type 0) → ((n : ℕ) → P n → f n ≡ g n) → (ns : List ℕ) → AllByRecursion P ns → map f ns ≡ map g ns
map_same f g P e [] w = refl
map_same f g P e (n ∷ ns) w = let p = e n w.0 in let q = map_same f g P e ns w.1 in cc

module _ {X : Type 0} (none : X) (f : ℕ → Term → List X → X) where
  kept : (ts : List Term) (done : List X) (i : ℕ) (d : X) → i < length done → get_or (fold (next none f) done ts) i d ≡ get_or done i d
  kept [] done i d h = refl
  kept (t ∷ ts) done i d h =
      let x = f (length done) t (map (λ n. get_or done n none) t.args) in
      kept ts (done ++ x ∷ []) i d (omega (arith, length_push done x)) ∙ get_or_append_left done (x ∷ []) d i h

  long_from : (ts : List Term) (done : List X) → length (fold (next none f) done ts) ≡ length done + length ts
  long_from [] done = omega arith
  long_from (t ∷ ts) done =
      let x = f (length done) t (map (λ n. get_or done n none) t.args) in
      omega (arith, long_from ts (done ++ x ∷ []), length_push done x)

  split : (ts us : List Term) (done : List X) → fold (next none f) done (ts ++ us) ≡ fold (next none f) (fold (next none f) done ts) us
  split [] us done = refl
  split (t ∷ ts) us done = split ts us (next none f done t)

  pub built_long : (ts : List Term) → length (built none f ts) ≡ length ts
  built_long ts = omega (arith, long_from ts [])

  -- more entries change nothing before them
  pub built_kept : (ts us : List Term) (i : ℕ) → i < length ts → get_or (built none f (ts ++ us)) i none ≡ get_or (built none f ts) i none
  built_kept ts us i h =
      ap (λ xs. get_or xs i none) (split ts us []) ∙ kept us (built none f ts) i none (omega (arith, built_long ts))

  -- each entry gets what `f` makes of what its arguments get
  pub built_at : (ts : List Term) (i : ℕ) → i < length ts → AllByRecursion (λ n. n < i) (term_at ts i).args →
      get_or (built none f ts) i none ≡ f i (term_at ts i) (map (λ n. get_or (built none f ts) n none) (term_at ts i).args)
  built_at ts i h w =
      let front = take i ts in
      let t = term_at ts i in
      let rest = drop (i + 1) ts in
      let done = built none f front in
      let x = f (length done) t (map (λ n. get_or done n none) t.args) in
      let l : length done ≡ i = built_long front ∙ length-take-le i ts (omega arith) in
      let cut : front ++ t ∷ rest ≡ ts = ap (λ z. front ++ z) (sym (drop_more ts i no_term h)) ∙ take-append-drop i ts in
      let whole : built none f ts ≡ fold (next none f) (done ++ x ∷ []) rest = ap (built none f) (sym cut) ∙ split front (t ∷ rest) [] in
      let here : get_or (built none f ts) i none ≡ x =
      ap (λ xs. get_or xs i none) whole ∙ kept rest (done ++ x ∷ []) i none (omega (arith, length_push done x)) ∙ get_or_push done x none i l in
      let old : (n : ℕ) → n < i → get_or done n none ≡ get_or (built none f ts) n none =
      λ n b. sym (ap (λ xs. get_or xs n none) whole ∙ kept rest (done ++ x ∷ []) n none (omega (arith, length_push done x)) ∙ get_or_append_left done (x ∷ []) none n (omega arith)) in
      here ∙ ap (λ n. f n t (map (λ m. get_or done m none) t.args)) l
      ∙ ap (f i t) (map_same (λ n. get_or done n none) (λ n. get_or (built none f ts) n none) (λ n. n < i) old t.args w)
