-- What holds of the pieces of every text, seen from outside: a law beside the definition.
use Rattle.std.specs.Prelude.{◌≡◌, ℕ, ◌<◌, Bool, true, false, cond, ◌⊎◌, List, [], ◌∷◌, length, take, count_by, nat_eq, slice_index, slice_index_or}
use Rattle.std.specs.List.{AllByRecursion}
use Rattle.text.specs.Bytes.{is_semicolon, in_line}
use Rattle.text.specs.Parts.{Part}
use Rattle.text.specs.Layout.{end_of, Laid}
use Rattle.pieces.specs.Pieces.{is_bare, pieces}

-- The bytes that stand outside comments, where the first stands in one or not.
abbrev pub outside : Bool → List ℕ → List ℕ
outside comment [] = []
outside true (b ∷ bs) = outside (in_line b) bs
outside false (b ∷ bs) = cond (is_semicolon b) (outside true bs) (b ∷ outside false bs)

-- How many brackets open and how many close outside comments.
abbrev pub opens : Bool → List ℕ → ℕ
opens comment bs = count_by (λ b. nat_eq b 40) (outside comment bs)

abbrev pub closes : Bool → List ℕ → ℕ
closes comment bs = count_by (λ b. nat_eq b 41) (outside comment bs)

-- As many brackets close as open.
abbrev pub Balanced : List ℕ → Type 0
Balanced bs = closes false bs ≡ opens false bs

-- A bracketed piece: no shorter front of it balances, and it balances itself or runs to the end of the text.
pub record Bracketed (text : List ℕ) (p : Part) : Type 0 where
  pub first : slice_index_or p.bytes 0 0 ≡ 40
  pub shortest : (n : ℕ) → 0 < n → n < length p.bytes → Balanced (take n p.bytes) → ⊥
  pub closed : Balanced p.bytes ⊎ (end_of p ≡ length text)

-- A bare word is a longest run of bytes that are neither blank, bracket nor semicolon.
pub record Word (text : List ℕ) (p : Part) : Type 0 where
  pub some : 0 < length p.bytes
  pub run : AllByRecursion (λ b. is_bare b ≡ true) p.bytes
  pub longest : end_of p < length text → is_bare (slice_index text (end_of p)) ≡ false

-- What a piece is.
pub data Shape (text : List ℕ) (p : Part) : Type 0 where
  bracketed : Bracketed text p → Shape text p
  stray : p.bytes ≡ 41 ∷ [] → Shape text p
  word : Word text p → Shape text p

-- The law of cutting: a text is laid out by its pieces, and between them is nothing but blanks and comments.
pub record Cut (text : List ℕ) : Type 0 where
  pub laid : Laid text 0 (pieces text)
  pub each : AllByRecursion (Shape text) (pieces text)
