-- Numbers of terms of a list.
use Rattle.std.specs.Prelude.{ℕ, ◌<◌, List, length}
use Rattle.std.specs.List.{AllByRecursion}
use Rattle.entries.specs.declared.entry.Term.{Term}

-- Each number is that of a term.
abbrev pub Within : List Term → List ℕ → Type 0
Within terms ns = AllByRecursion (λ n. n < length terms) ns
