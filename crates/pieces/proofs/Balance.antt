-- Open brackets by counting them.
use Rattle.std.proofs.Common.{◌≡◌, ℕ, zero, suc, ◌+◌, ◌<◌, Bool, true, false, cond, eqb, ◌⊎◌, List, [], ◌∷◌, length, take, refl, ap, ◌∙◌, inl, inr, ⊎_elim, arith, length-take-le, take-take}
use Rattle.std.proofs.lemmas.List.Sums.{sum_by-cons}
use Rattle.std.proofs.lemmas.Bool.{eqb-true, eqb-false, cases_Bool, cond_both}
use Rattle.std.proofs.lemmas.Bool.Decides.{nat_tests}
use Rattle.text.specs.Bytes.{is_semicolon, in_line}
use Rattle.pieces.specs.Pieces.{comment_behind, depth_behind, closing, enclosed}
use Rattle.pieces.specs.Laws.{outside, opens, closes, Balanced}
use Rattle.pieces.proofs.Closing.{enclosed_le}

-- a byte outside comments counts once
opens_one : (b : ℕ) (xs : List ℕ) (is : Bool) → is_semicolon b ≡ false → eqb b 40 ≡ is → opens false (b ∷ xs) ≡ cond is 1 0 + opens false xs
opens_one b xs is plain e = rw plain (sum_by-cons (λ x. cond (eqb x 40) 1 0) b (outside false xs)) ∙ ap (λ t. cond t 1 0 + opens false xs) e

closes_one : (b : ℕ) (xs : List ℕ) (is : Bool) → is_semicolon b ≡ false → eqb b 41 ≡ is → closes false (b ∷ xs) ≡ cond is 1 0 + closes false xs
closes_one b xs is plain e = rw plain (sum_by-cons (λ x. cond (eqb x 41) 1 0) b (outside false xs)) ∙ ap (λ t. cond t 1 0 + closes false xs) e

-- the brackets open behind a byte are those before it, with what it opens and without what it closes
module _ (b : ℕ) (xs : List ℕ) where
  Counted : ℕ → Bool → ℕ → Bool → Type 0
  Counted d c d' c' = d + opens c (b ∷ xs) + closes c' xs ≡ closes c (b ∷ xs) + (d' + opens c' xs)

  -- what counts behind the byte hangs on whether a comment goes on there
  told : (d : ℕ) (c : Bool) (d' : ℕ) (c' t : Bool) → c' ≡ t → Counted d c d' t → Counted d c d' c'
  told d c d' c' t e h = rw e h

  counted : (d : ℕ) (c : Bool) → 0 < d → Counted d c (depth_behind d c b) (comment_behind c b)
  unfolding Counted
  counted d true up = told d true d _ (in_line b) (grind (arith, nat_tests)) (omega arith)
  counted d false up =
      ⊎_elim
      (λ yes. let o : opens false (b ∷ xs) ≡ opens true xs = rw yes in
      let k : closes false (b ∷ xs) ≡ closes true xs = rw yes in
      let same : depth_behind d false b ≡ d = grind (arith, nat_tests) in
      told d false _ _ true (grind (arith, nat_tests)) (omega arith))
      (λ no. told d false _ _ false (grind (arith, nat_tests))
      (cond_both (eqb b 40) _ _ (λ n. Counted d false n false)
      (λ four. omega (arith, opens_one b xs true no four, closes_one b xs false no (grind (arith, nat_tests))))
      (λ other. cond_both (eqb b 41) _ _ (λ n. Counted d false n false)
      (λ one. omega (arith, opens_one b xs false no other, closes_one b xs true no one))
      (λ none. omega (arith, opens_one b xs false no other, closes_one b xs false no none)))))
      (cases_Bool (is_semicolon b))

Deep : ℕ → Bool → List ℕ → Type 0
Deep d c bs = closes c bs < d + opens c bs

-- before the bracket that closes, fewer close than open
deeper : (d : ℕ) (c : Bool) (b : ℕ) (bs : List ℕ) → 0 < d → (most : ℕ) → ((n : ℕ) → n < most → Deep (depth_behind d c b) (comment_behind c b) (take n bs)) → (n : ℕ) → n < suc most → Deep d c (take n (b ∷ bs))
unfolding Counted Deep
deeper d c b bs up most rest zero lt = omega arith
deeper d c b bs up most rest (suc n) lt = omega (arith, rest n (omega arith), counted b (take n bs) d c up)

deep_before : (d : ℕ) (c : Bool) (bs : List ℕ) (n : ℕ) → n < closing d c bs → Deep d c (take n bs)
unfolding closing
deep_before d c [] n lt = absurd (omega arith)
deep_before d c (b ∷ bs) n lt =
    cond_both (eqb d 0) _ _ (λ m. n < m → Deep d c (take n (b ∷ bs))) (λ _ none. absurd (omega arith))
    (λ e more. deeper d c b bs (omega (arith, eqb-false d 0 e)) _ (λ k low. deep_before (depth_behind d c b) (comment_behind c b) bs k low) n more) lt

-- at it as many close as open, or the bytes end
level_after : (d : ℕ) (c : Bool) (bs : List ℕ) → (closes c (take (closing d c bs) bs) ≡ d + opens c (take (closing d c bs) bs)) ⊎ (closing d c bs ≡ length bs)
unfolding closing Counted
level_after d c [] = inr refl
level_after d c (b ∷ bs) =
    cond_both (eqb d 0) _ _ (λ m. (closes c (take m (b ∷ bs)) ≡ d + opens c (take m (b ∷ bs))) ⊎ (m ≡ suc (length bs))) (λ e. inl (omega (arith, eqb-true d 0 e)))
    (λ e. let up : 0 < d = omega (arith, eqb-false d 0 e) in
    ⊎_elim (λ level. inl (omega (arith, level, counted b (take (closing (depth_behind d c b) (comment_behind c b) bs) bs) d c up))) (λ end. inr (ap suc end))
    (level_after (depth_behind d c b) (comment_behind c b) bs))

-- the same of an opening bracket and what it encloses
module _ (bs : List ℕ) where
  opens_first : (xs : List ℕ) → opens false (40 ∷ xs) ≡ 1 + opens false xs
  opens_first xs = opens_one 40 xs true refl refl

  closes_first : (xs : List ℕ) → closes false (40 ∷ xs) ≡ closes false xs
  closes_first xs = omega (arith, closes_one 40 xs false refl refl)

  pub none_shorter : (n : ℕ) → 0 < n → n < suc (length (take (enclosed bs) bs)) → Balanced (take n (40 ∷ take (enclosed bs) bs)) → ⊥
  unfolding Deep
  none_shorter zero up lt even = omega arith
  none_shorter (suc n) up lt even =
      let long : length (take (enclosed bs) bs) ≡ enclosed bs = length-take-le _ bs (enclosed_le bs) in
      let front : take n (take (enclosed bs) bs) ≡ take n bs = take-take n _ bs (omega arith) in
      let even' : Balanced (40 ∷ take n bs) = rw front at even in
      omega (arith, deep_before 1 false bs n (omega arith), opens_first (take n bs), closes_first (take n bs), even')

  pub whole_or_rest : Balanced (40 ∷ take (enclosed bs) bs) ⊎ (enclosed bs ≡ length bs)
  whole_or_rest =
      ⊎_elim (λ level. inl (omega (arith, level, opens_first (take (enclosed bs) bs), closes_first (take (enclosed bs) bs)))) (λ end. inr end)
      (level_after 1 false bs)
