-- The parts from a place on, by what stands there.
use Rattle.std.proofs.Common.{◌≡◌, ℕ, zero, suc, ◌+◌, ◌-◌, ◌<◌, ◌≤◌, List, [], ◌∷◌, length, get_or, take, drop, sym, refl, ap, ◌∙◌, add-zero, arith}
use Rattle.std.proofs.lemmas.List.{at_drop_more, at_drop_all, drop_more, drop-drop}
use Rattle.std.proofs.lemmas.Bool.{cond_both}
use Rattle.std.specs.List.{prefix_len}
use Rattle.text.specs.Bytes.{is_blank, is_semicolon, in_line, kind}
use Rattle.text.specs.declared.bytes.Kind.TheVariants.{Blank, Comment}
use Rattle.text.proofs.Classes.{blank_from_kind, comment_from_kind}
use Rattle.text.specs.Parts.{Part, Reach, parts, parts_from, Skips}

-- the parts that are left after n bytes, by what is left of the text
pub past_drop : (reach : Reach) (n at : ℕ) (bs : List ℕ) → parts reach n at bs ≡ parts reach 0 (at + n) (drop n bs)
unfolding parts
past_drop reach zero at [] = refl
past_drop reach zero at (b ∷ bs) = ap (λ a. parts reach 0 a (b ∷ bs)) (sym (add-zero at))
past_drop reach (suc n) at [] = refl
past_drop reach (suc n) at (b ∷ bs) =
    let same : at + 1 + n ≡ at + suc n = omega arith in past_drop reach n (at + 1) bs ∙ ap (λ a. parts reach 0 a (drop n bs)) same

-- where a part or a comment ends, n bytes on
reached : (reach : Reach) (text : List ℕ) (i n end : ℕ) → end ≡ i + n → parts reach n i (drop i text) ≡ parts_from reach text end
unfolding parts_from
reached reach text i n end h =
    past_drop reach n i (drop i text) ∙ ap (λ l. parts reach 0 (i + n) l) (drop-drop n i text) ∙ ap (λ k. parts reach 0 k (drop k text)) (sym h)

pub parts_end : (reach : Reach) (text : List ℕ) (i : ℕ) → length text ≤ i → parts_from reach text i ≡ []
unfolding parts_from parts
parts_end reach text i h = at_drop_all (parts reach 0 i) text i h

module _ (text : List ℕ) (i : ℕ) (lt : i < length text) where
  here : (reach : Reach) → parts_from reach text i ≡ parts reach 0 i (get_or text i 0 ∷ drop (i + 1) text)
  unfolding parts_from
  here reach = at_drop_more (parts reach 0 i) text i 0 lt

  -- what is skipped changes none of the parts to come
  pub blank_skipped : (from : ℕ) → ((reach : Reach) → parts_from reach text from ≡ parts_from reach text i) → Blank ≡ kind (get_or text i 0) → (reach : Reach) → parts_from reach text from ≡ parts_from reach text (i + 1)
  unfolding parts parts_from
  blank_skipped from inv k reach = inv reach ∙ here reach ∙ rw (blank_from_kind (get_or text i 0) k)

  pub comment_skipped : (from : ℕ) → ((reach : Reach) → parts_from reach text from ≡ parts_from reach text i) → Comment ≡ kind (get_or text i 0) → (end : ℕ) → end ≡ i + 1 + prefix_len in_line (drop (i + 1) text) → (reach : Reach) → parts_from reach text from ≡ parts_from reach text end
  unfolding parts
  comment_skipped from inv k end h reach =
      let is = comment_from_kind (get_or text i 0) k in
      inv reach ∙ here reach ∙ rw (is.0, is.1) (reached reach text (i + 1) _ end h)

-- what stands at a place where skipping stopped is the next part, up to where it reaches
pub next_part : (reach : Reach) (text : List ℕ) (from at : ℕ) → Skips text from at → at < length text → (end : ℕ) → end ≡ at + 1 + reach (get_or text at 0) (drop (at + 1) text) → parts_from reach text from ≡ record { at = at; bytes = take (end - at) (drop at text) } ∷ parts_from reach text end
unfolding parts
next_part reach text from at h lt end e =
    let n : ℕ = reach (get_or text at 0) (drop (at + 1) text) in
    let long : suc n ≡ end - at = omega arith in
    let bytes : get_or text at 0 ∷ take n (drop (at + 1) text) ≡ take (end - at) (drop at text) =
    ap (take (suc n)) (sym (drop_more text at 0 lt)) ∙ ap (λ m. take m (drop at text)) long
    in
    h.same reach ∙ here text at lt reach ∙ rw (h.solid lt, h.plain lt)
    (λ j. record { at = at; bytes = bytes j } ∷ reached reach text (at + 1) n end e j)

pub no_part : (reach : Reach) (text : List ℕ) (from at : ℕ) → Skips text from at → length text ≤ at → parts_from reach text from ≡ []
no_part reach text from at h le = h.same reach ∙ parts_end reach text at le

-- no byte begins more than one part
pub few_parts : (reach : Reach) (past at : ℕ) (bs : List ℕ) → length (parts reach past at bs) ≤ length bs
unfolding parts
few_parts reach past at [] = omega arith
few_parts reach (suc past) at (b ∷ bs) = omega (arith, few_parts reach past (at + 1) bs)
few_parts reach zero at (b ∷ bs) =
    let Few : List Part → Type 0 = λ ps. length ps ≤ suc (length bs) in
    cond_both (is_blank b) _ _ Few (λ _. omega (arith, few_parts reach zero (at + 1) bs))
    (λ _. cond_both (is_semicolon b) _ _ Few (λ _. omega (arith, few_parts reach (prefix_len in_line bs) (at + 1) bs)) (λ _. omega (arith, few_parts reach (reach b bs) (at + 1) bs)))
