-- What holds of the parts of every text, seen from outside: a law beside the definition.
use Rattle.std.specs.Prelude.{◌≡◌, ℕ, ◌+◌, ◌<◌, ◌≤◌, true, false, ◌⊎◌, List, [], ◌∷◌, length, take, drop, slice_index, slice_index_or}
use Rattle.std.specs.List.{AllByRecursion}
use Rattle.text.specs.Bytes.{is_name, is_blank, ends_line, kind}
use Rattle.text.specs.Parts.{Part}
use Rattle.text.specs.Tokens.{lexemes}
use Rattle.text.specs.declared.bytes.Kind.TheVariants.{Other}

-- A place is in a comment: a semicolon stands there or before it, and from the semicolon on no line ends.
pub record InComment (text : List ℕ) (i : ℕ) : Type 0 where
  pub start : ℕ
  pub before : start ≤ i
  pub semicolon : slice_index_or text start 0 ≡ 59
  pub one_line : (k : ℕ) → start ≤ k → k ≤ i → ends_line (slice_index text k) ≡ false

-- From one place up to another all bytes are blank or in a comment.
pub record Gap (text : List ℕ) (from to : ℕ) : Type 0 where
  pub forward : from ≤ to
  pub separates : (k : ℕ) → from ≤ k → k < to → (is_blank (slice_index text k) ≡ true) ⊎ InComment text k

-- A part's bytes stand in the text at its place.
abbrev pub Stands : List ℕ → Part → Type 0
Stands text p = take (length p.bytes) (drop p.at text) ≡ p.bytes

abbrev pub end_of : Part → ℕ
end_of p = p.at + length p.bytes

-- From a place on, a text is a gap, a part, a gap, a part and so on, and at last a gap up to its end.
abbrev pub Laid : List ℕ → ℕ → List Part → Type 0
Laid text from [] = Gap text from (length text)
Laid text from (p ∷ ps) = Gap text from p.at × Stands text p × Laid text (end_of p) ps

-- What a lexeme is: a round bracket, a longest run of name bytes, a colon with the longest such run after it, or a byte of no token.
pub data Shape (text : List ℕ) (end : ℕ) : List ℕ → Type 0 where
  bracket : (b : ℕ) → (b ≡ 40) ⊎ (b ≡ 41) → Shape text end (b ∷ [])
  run : (b : ℕ) (bs : List ℕ) → AllByRecursion (λ c. is_name c ≡ true) (b ∷ bs) → is_name (slice_index text end) ≡ false → Shape text end (b ∷ bs)
  colon : (bs : List ℕ) → AllByRecursion (λ c. is_name c ≡ true) bs → is_name (slice_index text end) ≡ false → Shape text end (58 ∷ bs)
  stray : (b : ℕ) → kind b ≡ Other → Shape text end (b ∷ [])

-- A lexeme of a text has such a shape and begins outside comments.
pub record Lexeme (text : List ℕ) (p : Part) : Type 0 where
  pub shape : Shape text (end_of p) p.bytes
  pub outside : InComment text p.at → ⊥

-- The law of the token layer: a text is laid out by its lexemes.
pub record Lexed (text : List ℕ) : Type 0 where
  pub laid : Laid text 0 (lexemes text)
  pub each : AllByRecursion (Lexeme text) (lexemes text)
