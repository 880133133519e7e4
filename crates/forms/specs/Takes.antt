-- Taking a token of a given kind off the front of a list of tokens.
use Rattle.std.specs.Prelude.{◌≡◌, ℕ, List, [], ◌∷◌, Option, MatchOption, ◌≢◌}
use Rattle.text.specs.Reading.{left}
use Rattle.text.specs.Tokens.{Tok, opens, closes, symbol, keyword, numeral, fault}
use Rattle.text.specs.declared.reader.Reader.{Reader}
use Rattle.forms.specs.declared.word.Word.{Word}

-- No token is first: there is none, or a fault.
abbrev pub NoToken : List Tok → Type 0
NoToken [] = Unit {0}
NoToken (opens at ∷ ts) = ⊥
NoToken (closes at ∷ ts) = ⊥
NoToken (symbol at bytes ∷ ts) = ⊥
NoToken (keyword at bytes ∷ ts) = ⊥
NoToken (numeral at value ∷ ts) = ⊥
NoToken (fault f ∷ ts) = Unit {0}

-- A bracket, or a given word: its place and the tokens after it, or no such token is first.
abbrev pub Takes : (ℕ → Tok) → List Tok → Option (ℕ × Reader) → Type 0
Takes kind was r = MatchOption r ((at : ℕ) (rest : List Tok) → was ≢ kind at ∷ rest) (λ p. was ≡ kind p.0 ∷ left p.1)

-- Any symbol, likewise.
abbrev pub TakesSymbol : List Tok → Option (Word × Reader) → Type 0
TakesSymbol was r =
    MatchOption r ((at : ℕ) (bytes : List ℕ) (rest : List Tok) → was ≢ symbol at bytes ∷ rest)
    (λ p. was ≡ symbol p.0.at p.0.text.now ∷ left p.1)

-- Any numeral, likewise: its place and its value.
abbrev pub TakesNumeral : List Tok → Option (ℕ × ℕ × Reader) → Type 0
TakesNumeral was r =
    MatchOption r ((at value : ℕ) (rest : List Tok) → was ≢ numeral at value ∷ rest)
    (λ p. was ≡ numeral p.0 p.1 ∷ left p.2)
