-- The line and the column of a place, by the bytes before it.
use Rattle.std.specs.Prelude.{ℕ, ◌+◌, Bool, not, List, take, count_by, ◌==◌}
use Rattle.std.specs.List.{suffix_len}
use Rattle.pieces.specs.declared.position.Position.{Position}

abbrev pub is_feed : ℕ → Bool
is_feed b = b == 10

-- One more than the line feeds before it.
abbrev pub line_after : List ℕ → ℕ
line_after before = 1 + count_by is_feed before

-- One more than the bytes after the last line feed before it.
abbrev pub column_after : List ℕ → ℕ
column_after before = 1 + suffix_len (λ b. not (is_feed b)) before

-- The position of a place of a text.
abbrev pub position_of : List ℕ → ℕ → Position
position_of text at = record { at = at; line = line_after (take at text); column = column_after (take at text) }
