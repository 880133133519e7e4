-- Where brackets close, byte by byte.
use Rattle.std.proofs.Common.{◌≡◌, ℕ, suc, ◌+◌, ◌<◌, ◌≤◌, Bool, false, eqb, List, [], ◌∷◌, length, get_or, drop, sym, refl, ◌∙◌, one-add, arith, ne_eqb}
use Rattle.std.proofs.lemmas.List.{at_drop_more, at_drop_all}
use Rattle.std.proofs.lemmas.Bool.{cond_both}
use Rattle.std.proofs.lemmas.List.Sums.{prefix_len-le-length}
use Rattle.std.proofs.lemmas.Bool.Decides.{nat_tests}
use Rattle.text.specs.Bytes.{kind}
use Rattle.text.specs.declared.bytes.Kind.{Kind}
use Rattle.text.specs.declared.bytes.Kind.TheVariants.{Blank, Comment, Open, Close, Colon, Digit, Initial, Other}
use Rattle.pieces.specs.Pieces.{is_bare, comment_behind, depth_behind, closing, enclosed, reaches, piece}

closing_more : (d : ℕ) (c : Bool) (text : List ℕ) (i : ℕ) → i < length text → 0 < d → closing d c (drop i text) ≡ 1 + closing (depth_behind d c (get_or text i 0)) (comment_behind c (get_or text i 0)) (drop (i + 1) text)
unfolding closing
closing_more d c text i lt deep =
    let open_yet : eqb d 0 ≡ false = ne_eqb _ _ (omega arith) in
    at_drop_more (closing d c) text i 0 lt ∙ rw open_yet (sym (one-add _))

-- a byte opens at most one bracket
deeper_by_one : (d : ℕ) (c : Bool) (b : ℕ) → depth_behind d c b ≤ d + 1
deeper_by_one d c b = grind (arith, nat_tests)

-- the loop's step
pub closing_on : (d : ℕ) (c : Bool) (text : List ℕ) (i all : ℕ) → i < length text → 0 < d → d ≤ i + 1 → i + closing d c (drop i text) ≡ all → (d' : ℕ) → d' ≡ depth_behind d c (get_or text i 0) → (c' : Bool) → c' ≡ comment_behind c (get_or text i 0) → (d' ≤ i + 1 + 1) × (i + 1 + closing d' c' (drop (i + 1) text) ≡ all)
closing_on d c text i all lt deep low inv d' e c' f =
    let more : closing d c (drop i text) ≡ 1 + closing d' c' (drop (i + 1) text) =
    closing_more d c text i lt deep ∙ sym (λ k. 1 + closing (e k) (f k) (drop (i + 1) text))
    in
    (omega (arith, deeper_by_one d c (get_or text i 0)), omega arith)

pub closing_none : (d : ℕ) (c : Bool) (text : List ℕ) (i : ℕ) → length text ≤ i → closing d c (drop i text) ≡ 0
unfolding closing
closing_none d c text i le = at_drop_all (closing d c) text i le

closing_done : (d : ℕ) (c : Bool) (bs : List ℕ) → d ≡ 0 → closing d c bs ≡ 0
unfolding closing
closing_done d c [] e = refl
closing_done d c (b ∷ bs) e = rw e

-- the byte at i closes the last bracket
pub closed : (d : ℕ) (c : Bool) (text : List ℕ) (i all : ℕ) → i < length text → 0 < d → d ≤ i + 1 → i + closing d c (drop i text) ≡ all → (d' : ℕ) → d' ≡ depth_behind d c (get_or text i 0) → (c' : Bool) → c' ≡ comment_behind c (get_or text i 0) → d' ≡ 0 → i + 1 ≡ all
closed d c text i all lt deep low inv d' e c' f none =
    omega (arith, (closing_on d c text i all lt deep low inv d' e c' f).1, closing_done d' c' (drop (i + 1) text) none)

closing_le : (d : ℕ) (c : Bool) (bs : List ℕ) → closing d c bs ≤ length bs
unfolding closing
closing_le d c [] = omega arith
closing_le d c (b ∷ bs) =
    cond_both (eqb d 0) _ _ (λ n. n ≤ suc (length bs)) (λ _. omega arith) (λ _. omega (arith, closing_le (depth_behind d c b) (comment_behind c b) bs))

pub enclosed_le : (bs : List ℕ) → enclosed bs ≤ length bs
enclosed_le bs = closing_le 1 false bs

reaches_le : (k : Kind) (bs : List ℕ) → reaches k bs ≤ length bs
reaches_le Blank bs = omega arith
reaches_le Comment bs = omega arith
reaches_le Open bs = enclosed_le bs
reaches_le Close bs = omega arith
reaches_le Colon bs = prefix_len-le-length is_bare bs
reaches_le Digit bs = prefix_len-le-length is_bare bs
reaches_le Initial bs = prefix_len-le-length is_bare bs
reaches_le Other bs = prefix_len-le-length is_bare bs

-- no piece goes on past the end
pub bounded : (b : ℕ) (bs : List ℕ) → piece b bs ≤ length bs
bounded b bs = reaches_le (kind b) bs
