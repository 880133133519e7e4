-- The place of a token is its lexeme's.
use Rattle.std.proofs.Common.{◌≡◌, ℕ, ltb, length, get_or, refl, arith}
use Rattle.std.proofs.lemmas.Bool.{cond_both}
use Rattle.text.specs.Bytes.{kind}
use Rattle.text.specs.Parts.{Part}
use Rattle.text.specs.Tokens.{place, short, token_of, is_numeral}
use Rattle.text.specs.declared.bytes.Kind.{Kind}
use Rattle.text.specs.declared.bytes.Kind.TheVariants.{Blank, Comment, Open, Close, Colon, Digit, Initial, Other}

-- two constructors are never equal: `cc` then shows this
pub off : {X : Type 0} → ◌≡◌ {A = ℕ} 0 1 → X
off e = absurd (omega arith)

-- a token stands where its lexeme does
pub place_token : (p : Part) → place (token_of p) ≡ p.at
place_token p = cond_both (ltb 64 (length p.bytes)) _ _ (λ t. place t ≡ p.at) (λ _. refl) (λ _. by_kind (kind (get_or p.bytes 0 0)))
  where
    by_kind : (k : Kind) → place (short k p.at p.bytes) ≡ p.at
    by_kind Blank = refl
    by_kind Comment = refl
    by_kind Open = refl
    by_kind Close = refl
    by_kind Colon = cond_both (ltb 1 (length p.bytes)) _ _ (λ t. place t ≡ p.at) (λ _. refl) (λ _. refl)
    by_kind Digit = cond_both (is_numeral p.bytes) _ _ (λ t. place t ≡ p.at) (λ _. refl) (λ _. refl)
    by_kind Initial = refl
    by_kind Other = refl
