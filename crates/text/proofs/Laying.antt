-- A text is laid out by its parts.
use Rattle.std.proofs.Common.{◌≡◌, ℕ, zero, suc, ◌+◌, ◌-◌, ◌<◌, ◌≤◌, Bool, true, false, List, [], ◌∷◌, length, get_or, take, drop, sym, refl, ap, ◌∙◌, inl, inr, ⊎_elim, add-zero, one-add, arith, length-take-le, get_or-drop}
use Rattle.std.specs.List.{prefix_len, AllByRecursion}
use Rattle.std.proofs.lemmas.List.{drop-drop, get_or_past}
use Rattle.std.proofs.lemmas.List.Sums.{prefix_len-le-length, prefix_len_passes, prefix_len_stops}
use Rattle.std.proofs.lemmas.Bool.{cases_lt, cases_eq, cond_both, not-true}
use Rattle.std.proofs.lemmas.Bool.Decides.{nat_tests}
use Rattle.text.specs.Bytes.{is_blank, is_semicolon, in_line, ends_line}
use Rattle.text.specs.Parts.{Part, Reach, parts, parts_from}
use Rattle.text.specs.Layout.{Gap, Stands, Laid}

-- each of a longest run passes
pub run_passes : (p : ℕ → Bool) (xs : List ℕ) → AllByRecursion (λ x. p x ≡ true) (take (prefix_len p xs) xs)
run_passes p [] = tt
run_passes p (x ∷ xs) =
    cond_both (p x) (1 + prefix_len p xs) 0 (λ n. AllByRecursion (λ y. p y ≡ true) (take n (x ∷ xs))) (λ e. rw one-add (e, run_passes p xs)) (λ _. tt)

-- where all pass, the default stands behind the longest run
pub run_stops : (p : ℕ → Bool) (xs : List ℕ) → p 0 ≡ false → p (get_or xs (prefix_len p xs) 0) ≡ false
run_stops p xs end =
    ⊎_elim (prefix_len_stops p xs 0) (λ le. ap p (get_or_past xs (prefix_len p xs) 0 le) ∙ end) (cases_lt (prefix_len p xs) (length xs))

joined_gaps : (text : List ℕ) (i j k : ℕ) → Gap text i j → Gap text j k → Gap text i k
joined_gaps text i j k g h = record {
  forward = omega arith;
  separates = λ m le lt. ⊎_elim (λ below. g.separates m le below) (λ above. h.separates m above lt) (cases_lt m j);
}

empty_gap : (text : List ℕ) (i : ℕ) → Gap text i i
empty_gap text i = record { forward = omega arith; separates = λ m le lt. absurd (omega arith) }

-- a gap before what is laid out belongs to it
widened : (text : List ℕ) (i j : ℕ) (ps : List Part) → Gap text i j → Laid text j ps → Laid text i ps
widened text i j [] g h = joined_gaps text i j _ g h
widened text i j (p ∷ ps) g h = (joined_gaps text i j _ g h.0, h.1, h.2)

-- the byte b stands at a place and bs after it
module _ (text : List ℕ) (at b : ℕ) (bs : List ℕ) (here : drop at text ≡ b ∷ bs) where
  pub byte_at : get_or text at 0 ≡ b
  byte_at = ap (λ i. get_or text i 0) (sym (add-zero at)) ∙ sym (get_or-drop at text 0 0) ∙ ap (λ l. get_or l 0 0) here

  pub rest_at : drop (at + 1) text ≡ bs
  rest_at = sym (drop-drop 1 at text) ∙ ap (drop 1) here

  pub byte_after : (k : ℕ) → at < k → get_or text k 0 ≡ get_or bs (k - (at + 1)) 0
  byte_after k lt =
      let same : k ≡ at + 1 + (k - (at + 1)) = omega arith in
      ap (λ i. get_or text i 0) same ∙ sym (get_or-drop (at + 1) text (k - (at + 1)) 0) ∙ ap (λ l. get_or l (k - (at + 1)) 0) rest_at

  blank_gap : is_blank b ≡ true → Gap text at (at + 1)
  blank_gap e = record {
    forward = omega arith;
    separates = λ k le lt. let same : k ≡ at = omega arith in inl (rw same (rw byte_at e));
  }

  comment_gap : is_semicolon b ≡ true → Gap text at (at + 1 + prefix_len in_line bs)
  comment_gap e = record {
    forward = omega arith;
    separates = λ k le lt. inr (record {
      start = at;
      before = le;
      semicolon = byte_at ∙ is;
      one_line = λ m low high. ⊎_elim (λ same. rw same (rw byte_at (rw is refl))) (λ apart. inside m (omega arith) (omega arith)) (cases_eq m at);
    });
  }
    where
      is : b ≡ 59
      is = grind (arith, nat_tests)

      inside : (m : ℕ) → at < m → m < at + 1 + prefix_len in_line bs → ends_line (get_or text m 0) ≡ false
      inside m low high =
          let passes : in_line (get_or bs (m - (at + 1)) 0) ≡ true = prefix_len_passes in_line bs (m - (at + 1)) 0 (omega arith) in
          rw (byte_after m low) (not-true _ passes)

  stands : (n : ℕ) → n ≤ length bs → Stands text (record { at = at; bytes = b ∷ take n bs })
  stands n le = ap (λ m. take (suc m) (drop at text)) (length-take-le n bs le) ∙ ap (take (suc n)) here

-- parts that do not reach past the bytes after their first lay a text out
module _ (reach : Reach) (bounded : (b : ℕ) (bs : List ℕ) → reach b bs ≤ length bs) (text : List ℕ) where
  laid_from : (past at : ℕ) (bs : List ℕ) → drop at text ≡ bs → at + length bs ≡ length text → past ≤ length bs → Laid text (at + past) (parts reach past at bs)
  unfolding parts
  laid_from past at [] here in' le = let same : at + past ≡ length text = omega arith in rw same (empty_gap text (length text))
  laid_from (suc past) at (b ∷ bs) here in' le =
      let same : at + suc past ≡ at + 1 + past = omega arith in
      rw same (laid_from past (at + 1) bs (rest_at text at b bs here) (omega arith) (omega arith))
  laid_from zero at (b ∷ bs) here in' le =
      rw add-zero
      (cond_both (is_blank b) _ _ (Laid text at) (λ e. widened text at (at + 1) _ (blank_gap text at b bs here e) (rw add-zero at (laid_from zero (at + 1) bs (rest_at text at b bs here) (omega arith) (omega arith))))
      (λ _. cond_both (is_semicolon b) _ _ (Laid text at) (λ e. widened text at _ _ (comment_gap text at b bs here e) (laid_from (prefix_len in_line bs) (at + 1) bs (rest_at text at b bs here) (omega arith) (prefix_len-le-length in_line bs)))
      (λ _. let reached : at + suc (length (take (reach b bs) bs)) ≡ at + 1 + reach b bs = omega (arith, length-take-le (reach b bs) bs (bounded b bs)) in
      (empty_gap text at, stands text at b bs here (reach b bs) (bounded b bs), rw reached (laid_from (reach b bs) (at + 1) bs (rest_at text at b bs here) (omega arith) (bounded b bs))))))

  pub laid : Laid text 0 (parts_from reach text 0)
  unfolding parts_from
  laid = laid_from 0 0 text refl (omega arith) (omega arith)
