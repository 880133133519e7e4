-- The tokens from a place on, by what stands there.
use Rattle.std.proofs.Common.{◌≡◌, ℕ, zero, suc, ◌+◌, ◌-◌, ◌<◌, ◌≤◌, List, [], ◌∷◌, map, length, get_or, take, drop, sym, refl, ap, ◌∙◌, arith}
use Rattle.std.proofs.lemmas.List.{take_rest, length-map}
use Rattle.std.proofs.lemmas.Bool.{cond_both}
use Rattle.std.proofs.lemmas.Bool.Decides.{nat_tests}
use Rattle.text.specs.Bytes.{is_blank, is_semicolon, kind}
use Rattle.text.specs.Parts.{Part, Reach, parts, parts_from, Skips}
use Rattle.text.specs.Tokens.{Tok, keyword, place, short, token_at, token_of, lexeme, tokens_from}
use Rattle.text.specs.declared.bytes.Kind.TheVariants.{Colon}
use Rattle.text.proofs.Cuts.{next_part, no_part, few_parts}
use Rattle.text.proofs.Laying.{rest_at}
use Rattle.text.proofs.Places.{off, place_token}

pub keyword_at : (at : ℕ) (bs : List ℕ) → Colon ≡ kind (get_or bs 0 0) → length bs ≤ 64 → 1 < length bs → keyword at (take (length bs - 1) (drop 1 bs)) ≡ token_at at bs
keyword_at at bs k le lt =
    let whole : keyword at (take (length bs - 1) (drop 1 bs)) ≡ keyword at (drop 1 bs) = ap (keyword at) (take_rest bs 1) in
    let here : short (kind (get_or bs 0 0)) at bs ≡ short Colon at bs = ap (λ j. short j at bs) (sym k) in
    whole ∙ grind (arith, nat_tests)

pub no_token : (text : List ℕ) (from at : ℕ) → Skips text from at → length text ≤ at → tokens_from text from ≡ []
no_token text from at h le = ap (map token_of) (no_part lexeme text from at h le)

-- what stands at a place where skipping stopped is the next token
module _ (text : List ℕ) (from at : ℕ) (h : Skips text from at) (lt : at < length text) (end : ℕ) (e : end ≡ at + 1 + lexeme (get_or text at 0) (drop (at + 1) text)) where
  next_token : tokens_from text from ≡ token_at at (take (end - at) (drop at text)) ∷ tokens_from text end
  next_token = ap (map token_of) (next_part lexeme text from at h lt end e)

  pub token_made : (t : Tok) → t ≡ token_at at (take (end - at) (drop at text)) → tokens_from text from ≡ t ∷ tokens_from text end
  token_made t is = next_token ∙ ap (λ u. u ∷ tokens_from text end) (sym is)

  pub token_refused : (t : Tok) → t ≡ token_at at (take (end - at) (drop at text)) → take 1 (tokens_from text from) ≡ t ∷ []
  token_refused t is = ap (take 1) (token_made t is)

pub few_tokens : (text : List ℕ) → length (tokens_from text 0) ≤ length text
unfolding parts_from
few_tokens text = omega (arith, length-map (parts_from lexeme text 0) token_of, few_parts lexeme 0 0 text)

-- The parts from the place of the next one on are the same again.
pub parts_again : (reach : Reach) (text : List ℕ) (past at : ℕ) (bs : List ℕ) → drop at text ≡ bs → (p : Part) (ps : List Part) → parts reach past at bs ≡ p ∷ ps → parts_from reach text p.at ≡ p ∷ ps
unfolding parts parts_from
parts_again reach text past at [] here p ps e = off (cc)
parts_again reach text (suc past) at (b ∷ bs) here p ps e = parts_again reach text past (at + 1) bs (rest_at text at b bs here) p ps e
parts_again reach text zero at (b ∷ bs) here p ps e =
    let rest = rest_at text at b bs here in
    let Again : List Part → Type 0 = λ l. l ≡ p ∷ ps → parts_from reach text p.at ≡ p ∷ ps in
    cond_both (is_blank b) _ _ Again (λ _ same. parts_again reach text zero (at + 1) bs rest p ps same)
    (λ _. cond_both (is_semicolon b) _ _ Again (λ _ same. parts_again reach text _ (at + 1) bs rest p ps same)
    (λ _ same. let first : record { at = at; bytes = b ∷ take (reach b bs) bs } ≡ p = cc in ap (parts_from reach text) (ap (λ q. q.at) (sym first)) ∙ start ∙ e))
    e
  where
    start : parts_from reach text at ≡ parts reach zero at (b ∷ bs)
    start = ap (parts reach zero at) here

-- So a reader that begins at the place of a token gives that token and those after it.
pub resumed : (text : List ℕ) (i : ℕ) (t : Tok) (ts : List Tok) → tokens_from text i ≡ t ∷ ts → tokens_from text (place t) ≡ t ∷ ts
unfolding parts_from
resumed text i t ts = from (parts_from lexeme text i) refl
  where
    again : (q : Part) (qs : List Part) → parts_from lexeme text i ≡ q ∷ qs → parts_from lexeme text q.at ≡ q ∷ qs
    again q qs e = parts_again lexeme text 0 i (drop i text) refl q qs e

    from : (ps : List Part) → parts_from lexeme text i ≡ ps → map token_of ps ≡ t ∷ ts → tokens_from text (place t) ≡ t ∷ ts
    from [] e is = off (cc)
    from (q ∷ qs) e is =
        let head : token_of q ≡ t = cc in
        ap (tokens_from text) (ap place (sym head) ∙ place_token q) ∙ ap (map token_of) (again q qs e) ∙ is
