-- Clauses compared as sets.
use Rattle.std.specs.Prelude.{Bool, ◌&&◌, List}
use Rattle.std.specs.List.{list_all}
use Rattle.entries.specs.declared.entry.Literal.{Literal}
use Rattle.entries.specs.Clauses.{holds_literal}

-- Two clauses have the same literals.
abbrev pub same_set : List Literal → List Literal → Bool
same_set c d = list_all (holds_literal c) d && list_all (holds_literal d) c
