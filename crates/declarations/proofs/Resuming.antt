-- A reader that begins at the place of a token of a text gives that token and those after it.
use Rattle.std.proofs.Common.{◌≡◌, ℕ, zero, suc, ◌+◌, List, [], ◌∷◌, ◌++◌, map, drop, sym, refl, ap, ◌∙◌}
use Rattle.std.proofs.lemmas.List.{drop-drop}
use Rattle.std.proofs.lemmas.Bool.{cond_both}
use Rattle.text.specs.Bytes.{is_blank, is_semicolon}
use Rattle.text.specs.Parts.{Part, Reach, parts, parts_from}
use Rattle.text.specs.Tokens.{Tok, place, token_of, lexeme, tokens_from}
use Rattle.text.proofs.Cuts.{past_drop}
use Rattle.text.proofs.Laying.{rest_at}
use Rattle.text.proofs.Lexing.{resumed}
use Rattle.text.proofs.Places.{off}

-- the parts after n bytes are those from a place on
placed : (reach : Reach) (text : List ℕ) (n at : ℕ) (bs : List ℕ) → drop at text ≡ bs → parts_from reach text (at + n) ≡ parts reach n at bs
unfolding parts_from
placed reach text n at bs here =
    ap (parts reach 0 (at + n)) (sym (drop-drop n at text) ∙ ap (drop n) here) ∙ sym (past_drop reach n at bs)

-- what follows the first part begins at some place
after_part : (reach : Reach) (text : List ℕ) (past at : ℕ) (bs : List ℕ) → drop at text ≡ bs → (p : Part) (ps : List Part) → parts reach past at bs ≡ p ∷ ps → (j : ℕ) × (parts_from reach text j ≡ ps)
unfolding parts
after_part reach text past at [] here p ps e = off (cc)
after_part reach text (suc past) at (b ∷ bs) here p ps e = after_part reach text past (at + 1) bs (rest_at text at b bs here) p ps e
after_part reach text zero at (b ∷ bs) here p ps e =
    let rest = rest_at text at b bs here in
    let After : List Part → Type 0 = λ l. l ≡ p ∷ ps → (j : ℕ) × (parts_from reach text j ≡ ps) in
    cond_both (is_blank b) _ _ After (λ _ same. after_part reach text zero (at + 1) bs rest p ps same)
    (λ _. cond_both (is_semicolon b) _ _ After (λ _ same. after_part reach text _ (at + 1) bs rest p ps same)
    (λ _ same. let tail : parts reach (reach b bs) (at + 1) bs ≡ ps = cc in (at + 1 + reach b bs, placed reach text (reach b bs) (at + 1) bs rest ∙ tail)))
    e

-- what follows the first token likewise
pub after_token : (text : List ℕ) (i : ℕ) (t : Tok) (ts : List Tok) → tokens_from text i ≡ t ∷ ts → (j : ℕ) × (tokens_from text j ≡ ts)
unfolding parts_from
after_token text i t ts = from (parts_from lexeme text i) refl
  where
    later : (q : Part) (qs : List Part) → parts_from lexeme text i ≡ q ∷ qs → (j : ℕ) × (parts_from lexeme text j ≡ qs)
    later q qs e = after_part lexeme text 0 i (drop i text) refl q qs e

    from : (ps : List Part) → parts_from lexeme text i ≡ ps → map token_of ps ≡ t ∷ ts → (j : ℕ) × (tokens_from text j ≡ ts)
    from [] e is = off (cc)
    from (q ∷ qs) e is =
        let h = later q qs e in
        let rest : map token_of qs ≡ ts = cc in
        (h.0, ap (map token_of) h.1 ∙ rest)

-- wherever a token stands among the tokens
pub resumes : (text : List ℕ) (front : List Tok) (i : ℕ) (t : Tok) (ts : List Tok) → tokens_from text i ≡ front ++ t ∷ ts → tokens_from text (place t) ≡ t ∷ ts
resumes text [] i t ts e = resumed text i t ts e
resumes text (u ∷ front) i t ts e = let h = after_token text i u (front ++ t ∷ ts) e in resumes text front h.0 t ts h.1
