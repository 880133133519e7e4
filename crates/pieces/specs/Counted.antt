-- What a count of lines and columns is of.
use Rattle.std.specs.Prelude.{ℕ, List}
use Rattle.pieces.specs.declared.lines.Lines.{Lines}

-- The text whose lines and columns are counted.
abbrev pub text_of : Lines → List ℕ
text_of lines = lines.text.now
