-- What a reader of tokens still has to give, and what its calls answer.
use Rattle.std.specs.Prelude.{◌≡◌, ℕ, ◌≤◌, List, [], ◌∷◌, length, take, Some, None, Ok, Err, Option, Result}
use Rattle.std.specs.List.{ContainsAt as Has}
use Rattle.text.specs.Tokens.{Tok, fault, place_of, tokens_from, first_fault, seen}
use Rattle.text.specs.declared.reader.Reader.{Reader}
use Rattle.text.specs.declared.token.Token.{Token}
use Rattle.text.specs.declared.token.TokenFault.{TokenFault}

-- The tokens that a reader still has to give.
unfoldable pub left : Reader → List Tok
left reader = tokens_from reader.text.now reader.cursor

-- What `next` answers where the tokens `was` are to come, and those that are to come after it. At a fault the reader stays.
abbrev pub Next : List Tok → Result (Option Token) TokenFault → List Tok → Type 0
Next was (Ok None) after = (was ≡ []) × (after ≡ [])
Next was (Ok (Some t)) after = was ≡ seen t ∷ after
Next was (Err f) after = (take 1 was ≡ fault f ∷ []) × (after ≡ was)

-- What `scan` answers of tokens: how many there are, or the first fault.
abbrev pub Scans : List Tok → Result ℕ TokenFault → Type 0
Scans ts (Ok n) = (first_fault ts ≡ None) × (n ≡ length ts)
Scans ts (Err f) = first_fault ts ≡ Some f

-- The same from outside: no token is at fault, or this one is and none stands further left.
abbrev pub Leftmost : List Tok → Result ℕ TokenFault → Type 0
Leftmost ts (Ok n) = (f : TokenFault) → Has ts (fault f) → ⊥
Leftmost ts (Err f) = Has ts (fault f) × ((g : TokenFault) → Has ts (fault g) → place_of f ≤ place_of g)
