-- How a text is cut into parts: blanks and comments separate them.
use Rattle.std.specs.Prelude.{◌≡◌, ℕ, zero, suc, ◌+◌, ◌<◌, false, cond, List, [], ◌∷◌, length, take, drop, slice_index}
use Rattle.std.specs.List.{prefix_len}
use Rattle.text.specs.Bytes.{is_blank, is_semicolon, in_line}

-- A part of a text: its place and its bytes, of which there is at least one.
pub record Part : Type 0 where
  pub at : ℕ
  pub bytes : List ℕ

-- How many of the bytes that follow a first one belong to its part.
abbrev pub Reach : Type 0
Reach = ℕ → List ℕ → ℕ

-- The parts of bytes whose first stands at a place `at`, of which the first `past` are taken already.
unfoldable pub parts : Reach → ℕ → ℕ → List ℕ → List Part
parts reach past at [] = []
parts reach (suc past) at (b ∷ bs) = parts reach past (at + 1) bs
parts reach zero at (b ∷ bs) =
    cond (is_blank b) (parts reach zero (at + 1) bs)
    (cond (is_semicolon b) (parts reach (prefix_len in_line bs) (at + 1) bs)
    (record { at = at; bytes = b ∷ take (reach b bs) bs } ∷ parts reach (reach b bs) (at + 1) bs))

-- The parts of a text from a place on.
unfoldable pub parts_from : Reach → List ℕ → ℕ → List Part
parts_from reach text i = parts reach zero i (drop i text)

-- From a place the next part, if any, begins at r: it is found past blanks and comments, however far parts reach.
pub record Skips (text : List ℕ) (from r : ℕ) : Type 0 where
  pub same : (reach : Reach) → parts_from reach text from ≡ parts_from reach text r
  pub solid : r < length text → is_blank (slice_index text r) ≡ false
  pub plain : r < length text → is_semicolon (slice_index text r) ≡ false
