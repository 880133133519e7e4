-- Each lexeme has its shape and begins outside comments.
use Rattle.std.proofs.Common.{◌≡◌, ℕ, zero, suc, ◌+◌, ◌-◌, ◌<◌, ◌≤◌, true, false, List, [], ◌∷◌, length, get_or, take, drop, sym, refl, ap, ◌∙◌, inl, inr, ⊎_elim, add-zero, arith, length-take-le}
use Rattle.std.specs.List.{prefix_len, AllByRecursion}
use Rattle.std.proofs.lemmas.List.Sums.{prefix_len-le-length, prefix_len_passes, prefix_len_stops}
use Rattle.std.proofs.lemmas.Bool.{cases_lt, cases_eq, cond_both, not-false}
use Rattle.std.proofs.lemmas.Bool.Decides.{nat_tests}
use Rattle.text.specs.Bytes.{is_name, is_blank, is_semicolon, in_line, ends_line, kind}
use Rattle.text.specs.Parts.{parts, parts_from}
use Rattle.text.specs.Tokens.{begins, lexeme}
use Rattle.text.specs.Layout.{InComment, Shape, bracket, run, colon, stray, Lexeme, Lexed}
use Rattle.text.specs.declared.bytes.Kind.{Kind}
use Rattle.text.specs.declared.bytes.Kind.TheVariants.{Blank, Comment, Open, Close, Colon, Digit, Initial, Other}
use Rattle.text.proofs.Laying.{run_passes, run_stops, byte_at, rest_at, byte_after, laid}

-- no comment that began before a place goes on there
Outside : List ℕ → ℕ → Type 0
Outside text i = (j : ℕ) → j < i → get_or text j 0 ≡ 59 → (k : ℕ) × (j ≤ k) × (k ≤ i) × (ends_line (get_or text k 0) ≡ true)

-- no lexeme is longer than the text
pub lexeme_bounded : (b : ℕ) (bs : List ℕ) → lexeme b bs ≤ length bs
lexeme_bounded b bs = bound (kind b)
  where
    bound : (k : Kind) → begins k bs ≤ length bs
    bound Blank = omega arith
    bound Comment = omega arith
    bound Open = omega arith
    bound Close = omega arith
    bound Colon = prefix_len-le-length is_name bs
    bound Digit = prefix_len-le-length is_name bs
    bound Initial = prefix_len-le-length is_name bs
    bound Other = omega arith

-- no semicolon stands in a lexeme
no_semicolon : (b : ℕ) (bs : List ℕ) (k : ℕ) → k < lexeme b bs → is_semicolon (get_or bs k 0) ≡ false
no_semicolon b bs k = by_kind (kind b)
  where
    named : k < prefix_len is_name bs → is_semicolon (get_or bs k 0) ≡ false
    named lt = let is : is_name (get_or bs k 0) ≡ true = prefix_len_passes is_name bs k 0 lt in grind (arith, nat_tests)

    by_kind : (j : Kind) → k < begins j bs → is_semicolon (get_or bs k 0) ≡ false
    by_kind Blank lt = absurd (omega arith)
    by_kind Comment lt = absurd (omega arith)
    by_kind Open lt = absurd (omega arith)
    by_kind Close lt = absurd (omega arith)
    by_kind Colon lt = named lt
    by_kind Digit lt = named lt
    by_kind Initial lt = named lt
    by_kind Other lt = absurd (omega arith)

module _ (text : List ℕ) (at b : ℕ) (bs : List ℕ) (here : drop at text ≡ b ∷ bs) where
  -- after the longest run of name bytes comes none
  stops : is_name (get_or text (at + length (b ∷ take (prefix_len is_name bs) bs)) 0) ≡ false
  stops =
      let n : ℕ = prefix_len is_name bs in
      let long : at + length (b ∷ take n bs) - (at + 1) ≡ n = omega (arith, length-take-le n bs (prefix_len-le-length is_name bs)) in
      rw (byte_after text at b bs here (at + length (b ∷ take n bs)) (omega arith), long) (run_stops is_name bs refl)

  shape : (k : Kind) → k ≡ kind b → is_blank b ≡ false → is_semicolon b ≡ false → Shape text (at + length (b ∷ take (begins k bs) bs)) (b ∷ take (begins k bs) bs)
  shape Blank e solid plain = absurd (grind (arith, nat_tests))
  shape Comment e solid plain = absurd (grind (arith, nat_tests))
  shape Open e solid plain = bracket b (inl (grind (arith, nat_tests)))
  shape Close e solid plain = bracket b (inr (grind (arith, nat_tests)))
  shape Colon e solid plain = let is : b ≡ 58 = grind (arith, nat_tests) in rw is (colon _ (run_passes is_name bs) stops)
  shape Digit e solid plain = run b _ ((grind (arith, nat_tests)), run_passes is_name bs) stops
  shape Initial e solid plain = run b _ ((grind (arith, nat_tests)), run_passes is_name bs) stops
  shape Other e solid plain = stray b (sym e)

  -- a lexeme begins outside comments, and no comment goes on after one
  outside_here : Outside text at → is_semicolon b ≡ false → InComment text at → ⊥
  unfolding Outside
  outside_here out plain c =
      ⊎_elim (λ same. let is : b ≡ 59 = sym (byte_at text at b bs here) ∙ ap (λ i. get_or text i 0) (sym same) ∙ c.semicolon in grind (arith, nat_tests))
      (λ apart. let ended = out c.start (omega arith) c.semicolon in
      let clash : true ≡ false = sym ended.3 ∙ c.one_line ended.0 ended.1 ended.2 in
      let z : ◌≡◌ {A = ℕ} 0 1 = cc in omega arith)
      (cases_eq c.start at)

  -- while no semicolon is passed, one stays outside comments
  outside_past : (n : ℕ) → n ≤ length bs → Outside text at → is_semicolon b ≡ false → ((k : ℕ) → k < n → is_semicolon (get_or bs k 0) ≡ false) → Outside text (at + 1 + n)
  unfolding Outside
  outside_past n le out plain others j lt semicolon =
      ⊎_elim (λ before. let ended = out j before semicolon in (ended.0, ended.1, omega arith, ended.3))
      (λ after. absurd (⊎_elim (λ same. let is : b ≡ 59 = sym (byte_at text at b bs here) ∙ ap (λ i. get_or text i 0) (sym same) ∙ semicolon in grind (arith, nat_tests))
      (λ apart. let is : get_or bs (j - (at + 1)) 0 ≡ 59 = sym (byte_after text at b bs here j (omega arith)) ∙ semicolon in
      let not : is_semicolon (get_or bs (j - (at + 1)) 0) ≡ false = others (j - (at + 1)) (omega arith) in
      grind (arith, nat_tests))
      (cases_eq j at)))
      (cases_lt j at)

  -- after a comment, where its line ends
  outside_line : prefix_len in_line bs < length bs → Outside text (at + 1 + prefix_len in_line bs)
  unfolding Outside
  outside_line lt j before semicolon = (at + 1 + prefix_len in_line bs, omega arith, omega arith, ended)
    where
      ended : ends_line (get_or text (at + 1 + prefix_len in_line bs) 0) ≡ true
      ended =
          let place : at + 1 + prefix_len in_line bs - (at + 1) ≡ prefix_len in_line bs = omega arith in
          let stop : in_line (get_or bs (prefix_len in_line bs) 0) ≡ false = prefix_len_stops in_line bs 0 lt in
          rw (byte_after text at b bs here (at + 1 + prefix_len in_line bs) (omega arith), place) (not-false _ stop)

module _ (text : List ℕ) where
  lexed_from : (past at : ℕ) (bs : List ℕ) → drop at text ≡ bs → (past < length bs → Outside text (at + past)) → AllByRecursion (Lexeme text) (parts lexeme past at bs)
  unfolding parts
  lexed_from past at [] here out = tt
  lexed_from (suc past) at (b ∷ bs) here out =
      let same : at + suc past ≡ at + 1 + past = omega arith in
      lexed_from past (at + 1) bs (rest_at text at b bs here) (λ lt. rw same at (out (omega arith)))
  lexed_from zero at (b ∷ bs) here out =
      let now : Outside text at = rw add-zero at (out (omega arith)) in
      let rest = rest_at text at b bs here in
      cond_both (is_blank b) _ _ (AllByRecursion (Lexeme text)) (λ e. lexed_from zero (at + 1) bs rest (λ _. outside_past text at b bs here 0 (omega arith) now (grind (arith, nat_tests)) (λ k lt. absurd (omega arith))))
      (λ solid. cond_both (is_semicolon b) _ _ (AllByRecursion (Lexeme text)) (λ e. lexed_from (prefix_len in_line bs) (at + 1) bs rest (λ lt. outside_line text at b bs here lt))
      (λ plain. (record { shape = shape text at b bs here (kind b) refl solid plain; outside = outside_here text at b bs here now plain }, lexed_from (lexeme b bs) (at + 1) bs rest (λ lt. outside_past text at b bs here (lexeme b bs) (lexeme_bounded b bs) now plain (no_semicolon b bs)))))

pub lexed : (text : List ℕ) → Lexed text
unfolding parts_from Outside
lexed text = record { laid = laid lexeme lexeme_bounded text; each = lexed_from text 0 0 text refl (λ lt j before. absurd (omega arith)) }
