-- Each piece has its shape.
use Rattle.std.proofs.Common.{◌≡◌, ℕ, zero, suc, ◌+◌, ◌-◌, ◌≤◌, true, false, List, [], ◌∷◌, length, get_or, take, drop, refl, ap, ◌∙◌, inl, inr, ⊎_elim, arith, length-drop, length-take-le}
use Rattle.std.specs.List.{prefix_len, AllByRecursion}
use Rattle.std.proofs.lemmas.List.Sums.{prefix_len-le-length, prefix_len_stops, sum_by-cons}
use Rattle.std.proofs.lemmas.Bool.{cond_both}
use Rattle.std.proofs.lemmas.Bool.Decides.{nat_tests}
use Rattle.text.specs.Bytes.{is_blank, is_semicolon, in_line, kind}
use Rattle.text.specs.Parts.{Part, parts, parts_from}
use Rattle.text.specs.declared.bytes.Kind.{Kind}
use Rattle.text.specs.declared.bytes.Kind.TheVariants.{Blank, Comment, Open, Close, Colon, Digit, Initial, Other}
use Rattle.text.proofs.Cuts.{few_parts}
use Rattle.text.proofs.Laying.{run_passes, rest_at, byte_after, laid}
use Rattle.pieces.specs.Pieces.{is_bare, enclosed, reaches, piece, pieces}
use Rattle.pieces.specs.Cutting.{size}
use Rattle.pieces.specs.Laws.{Shape, bracketed, stray, word, Cut}
use Rattle.pieces.proofs.Closing.{enclosed_le, bounded}
use Rattle.pieces.proofs.Balance.{none_shorter, whole_or_rest}

-- the byte b stands at a place and bs after it
module _ (text : List ℕ) (at b : ℕ) (bs : List ℕ) (here : drop at text ≡ b ∷ bs) where
  whole : at + 1 + length bs ≡ length text
  whole = omega (arith, length-drop at text, ap length here)

  bracket_shape : b ≡ 40 → Shape text (record { at = at; bytes = b ∷ take (enclosed bs) bs })
  bracket_shape e =
      let long : length (take (enclosed bs) bs) ≡ enclosed bs = length-take-le _ bs (enclosed_le bs) in
      bracketed (record {
        first = e;
        shortest = rw e (none_shorter bs);
        closed = ⊎_elim (λ even. inl (rw e even)) (λ end. inr (omega (arith, whole))) (whole_or_rest bs);
      })

  word_shape : is_bare b ≡ true → Shape text (record { at = at; bytes = b ∷ take (prefix_len is_bare bs) bs })
  word_shape e =
      let long : length (take (prefix_len is_bare bs) bs) ≡ prefix_len is_bare bs = length-take-le _ bs (prefix_len-le-length is_bare bs) in
      let end : at + suc (length (take (prefix_len is_bare bs) bs)) ≡ at + 1 + prefix_len is_bare bs = omega arith in
      let place : at + 1 + prefix_len is_bare bs - (at + 1) ≡ prefix_len is_bare bs = omega arith in
      let next : get_or text (at + suc (length (take (prefix_len is_bare bs) bs))) 0 ≡ get_or bs (prefix_len is_bare bs) 0 =
      ap (λ i. get_or text i 0) end ∙ byte_after text at b bs here _ (omega arith) ∙ ap (λ i. get_or bs i 0) place
      in
      word (record { some = omega arith; run = (e, run_passes is_bare bs); longest = λ lt. ap is_bare next ∙ prefix_len_stops is_bare bs 0 (omega (arith, whole)) })

  shape : (k : Kind) → k ≡ kind b → is_blank b ≡ false → is_semicolon b ≡ false → Shape text (record { at = at; bytes = b ∷ take (reaches k bs) bs })
  shape Blank is solid plain = absurd (grind (arith, nat_tests))
  shape Comment is solid plain = absurd (grind (arith, nat_tests))
  shape Open is solid plain = bracket_shape (grind (arith, nat_tests))
  shape Close is solid plain = let one : b ≡ 41 = grind (arith, nat_tests) in stray (ap (λ x. x ∷ []) one)
  shape Colon is solid plain = word_shape (grind (arith, nat_tests))
  shape Digit is solid plain = word_shape (grind (arith, nat_tests))
  shape Initial is solid plain = word_shape (grind (arith, nat_tests))
  shape Other is solid plain = word_shape (grind (arith, nat_tests))

module _ (text : List ℕ) where
  shapes_from : (past at : ℕ) (bs : List ℕ) → drop at text ≡ bs → AllByRecursion (Shape text) (parts piece past at bs)
  unfolding parts
  shapes_from past at [] here = tt
  shapes_from (suc past) at (b ∷ bs) here = shapes_from past (at + 1) bs (rest_at text at b bs here)
  shapes_from zero at (b ∷ bs) here =
      let rest = rest_at text at b bs here in
      cond_both (is_blank b) _ _ (AllByRecursion (Shape text)) (λ _. shapes_from zero (at + 1) bs rest)
      (λ solid. cond_both (is_semicolon b) _ _ (AllByRecursion (Shape text)) (λ _. shapes_from (prefix_len in_line bs) (at + 1) bs rest)
      (λ plain. (shape text at b bs here (kind b) refl solid plain, shapes_from (piece b bs) (at + 1) bs rest)))

pub cut : (text : List ℕ) → Cut text
unfolding parts_from
cut text = record { laid = laid piece bounded text; each = shapes_from text 0 0 text refl }

pub few_pieces : (text : List ℕ) → length (pieces text) ≤ length text
unfolding parts_from
few_pieces text = few_parts piece 0 0 text

-- what is taken already and the pieces have no more bytes than there are
size_from : (past at : ℕ) (bs : List ℕ) → past ≤ length bs → past + size (parts piece past at bs) ≤ length bs
unfolding parts
size_from past at [] le = omega arith
size_from (suc past) at (b ∷ bs) le = omega (arith, size_from past (at + 1) bs (omega arith))
size_from zero at (b ∷ bs) le =
    let Fits : List Part → Type 0 = λ ps. zero + size ps ≤ suc (length bs) in
    cond_both (is_blank b) _ _ Fits (λ _. omega (arith, size_from zero (at + 1) bs (omega arith)))
    (λ _. cond_both (is_semicolon b) _ _ Fits (λ _. omega (arith, size_from (prefix_len in_line bs) (at + 1) bs (prefix_len-le-length in_line bs)))
    (λ _. let long : length (take (piece b bs) bs) ≡ piece b bs = length-take-le (piece b bs) bs (bounded b bs) in
    omega (arith, sum_by-cons (λ p. length p.bytes) (record { at = at; bytes = b ∷ take (piece b bs) bs }) (parts piece (piece b bs) (at + 1) bs), size_from (piece b bs) (at + 1) bs (bounded b bs))))

pub size_fits : (text : List ℕ) → size (pieces text) ≤ length text
unfolding parts_from
size_fits text = omega (arith, size_from 0 0 text (omega arith))
