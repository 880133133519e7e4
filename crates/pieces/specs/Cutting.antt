-- What a cutter still has to give.
use Rattle.std.specs.Prelude.{ℕ, List, length, sum_by}
use Rattle.text.specs.Parts.{Part, parts_from}
use Rattle.pieces.specs.Pieces.{piece}
use Rattle.pieces.specs.declared.cutter.Cutter.{Cutter}
use Rattle.pieces.specs.declared.cutter.Piece.{Piece}

-- The pieces that a cutter still has to give.
unfoldable pub left : Cutter → List Part
left cutter = parts_from piece cutter.text.now cutter.cursor

-- How many bytes pieces have.
abbrev pub size : List Part → ℕ
size ps = sum_by (λ p. length p.bytes) ps

-- The piece that the code has made.
abbrev pub seen : Piece → Part
seen p = record { at = p.at; bytes = p.text.now }
