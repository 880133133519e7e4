-- The tokens of a command, each with its place.
use Rattle.std.specs.Prelude.{ℕ, ◌+◌, ◌-◌, ◌*◌, Bool, cond, not, ◌&&◌, List, [], ◌∷◌, map, length, drop, Some, None, Ok, Err, fold, Option, Result, ◌==◌, nat_le, nat_lt, slice_index, codes}
use Rattle.std.specs.List.{prefix_len}
use Rattle.std.specs.Str.{all_ascii_digits}
use Rattle.text.specs.Bytes.{is_name, kind}
use Rattle.text.specs.Parts.{Part, Reach, parts_from}
use Rattle.text.specs.declared.bytes.Kind.{Kind}
use Rattle.text.specs.declared.bytes.Kind.TheVariants.{Blank, Comment, Open, Close, Colon, Digit, Initial, Other}
use Rattle.text.specs.declared.token.Token.{Token}
use Rattle.text.specs.declared.token.Token.TheVariants as token
use Rattle.text.specs.declared.token.TokenFault.{TokenFault}
use Rattle.text.specs.declared.token.TokenFault.TheVariants.{Stray, BareColon, TooLong, BadNumeral}

-- A token with its place, or a fault.
pub data Tok : Type 0 where
  opens closes : ℕ → Tok
  symbol keyword : ℕ → List ℕ → Tok
  numeral : ℕ → ℕ → Tok
  fault : TokenFault → Tok

-- The number that people see for a fault.
abbrev pub number_of : TokenFault → ℕ
number_of (Stray at) = 10
number_of (BareColon at) = 10
number_of (TooLong at) = 10
number_of (BadNumeral at) = 11

-- The place of a fault.
abbrev pub place_of : TokenFault → ℕ
place_of (Stray at) = at
place_of (BareColon at) = at
place_of (TooLong at) = at
place_of (BadNumeral at) = at

-- What people read of a fault.
abbrev pub message_of : TokenFault → List ℕ
message_of (Stray at) = codes "a byte that belongs to no token"
message_of (BareColon at) = codes "a colon with no name after it"
message_of (TooLong at) = codes "a token of more than 64 bytes"
message_of (BadNumeral at) = codes "a digit first, but no numeral from 0 to 1000000"

-- The number that decimal digits write after others that write n.
abbrev pub value_on : ℕ → List ℕ → ℕ
value_on n digits = fold (λ m d. m * 10 + (d - 48)) n digits

-- A numeral: digits alone, at most 1,000,000, with no zero in front of another digit.
abbrev pub is_numeral : List ℕ → Bool
is_numeral bs = all_ascii_digits bs && (nat_le (value_on 0 bs) 1000000 && not (slice_index bs 0 == 48 && nat_lt 1 (length bs)))

-- What a lexeme of at most 64 bytes at a place is, by the kind of its first byte.
abbrev pub short : Kind → ℕ → List ℕ → Tok
short Blank at bs = fault (Stray at)
short Comment at bs = fault (Stray at)
short Open at bs = opens at
short Close at bs = closes at
short Colon at bs = cond (nat_lt 1 (length bs)) (keyword at (drop 1 bs)) (fault (BareColon at))
short Digit at bs = cond (is_numeral bs) (numeral at (value_on 0 bs)) (fault (BadNumeral at))
short Initial at bs = symbol at bs
short Other at bs = fault (Stray at)

-- What a lexeme is.
abbrev pub token_at : ℕ → List ℕ → Tok
token_at at bs = cond (nat_lt 64 (length bs)) (fault (TooLong at)) (short (kind (slice_index bs 0)) at bs)

abbrev pub token_of : Part → Tok
token_of p = token_at p.at p.bytes

-- A colon or a name byte goes on over the longest run of name bytes after it, any other byte stands alone.
abbrev pub begins : Kind → List ℕ → ℕ
begins Blank bs = 0
begins Comment bs = 0
begins Open bs = 0
begins Close bs = 0
begins Colon bs = prefix_len is_name bs
begins Digit bs = prefix_len is_name bs
begins Initial bs = prefix_len is_name bs
begins Other bs = 0

abbrev pub lexeme : Reach
lexeme b bs = begins (kind b) bs

-- The lexemes of a text, and its tokens: what each lexeme is.
abbrev pub lexemes : List ℕ → List Part
lexemes text = parts_from lexeme text 0

abbrev pub tokens_from : List ℕ → ℕ → List Tok
tokens_from text i = map token_of (parts_from lexeme text i)

abbrev pub tokens : List ℕ → List Tok
tokens text = tokens_from text 0

-- The place of a token.
abbrev pub place : Tok → ℕ
place (opens at) = at
place (closes at) = at
place (symbol at bs) = at
place (keyword at bs) = at
place (numeral at n) = at
place (fault f) = place_of f

-- The first fault among tokens, if there is one.
abbrev pub first_fault : List Tok → Option TokenFault
first_fault [] = None
first_fault (opens at ∷ ts) = first_fault ts
first_fault (closes at ∷ ts) = first_fault ts
first_fault (symbol at bs ∷ ts) = first_fault ts
first_fault (keyword at bs ∷ ts) = first_fault ts
first_fault (numeral at n ∷ ts) = first_fault ts
first_fault (fault f ∷ ts) = Some f

-- The token that the code has made.
abbrev pub seen : Token → Tok
seen (token.Open at) = opens at
seen (token.Close at) = closes at
seen (token.Symbol at text) = symbol at text.now
seen (token.Keyword at text) = keyword at text.now
seen (token.Numeral at value) = numeral at value

-- The same, where it may be a fault.
abbrev pub told : Result Token TokenFault → Tok
told (Ok t) = seen t
told (Err f) = fault f
