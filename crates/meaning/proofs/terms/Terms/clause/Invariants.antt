use Rattle.std.proofs.Common.{◌≡◌, ◌≤◌, map, length, take}
use Rattle.entries.specs.Clauses.{clause_from}
use Rattle.meaning.specs.Truth.{literal_of}
use Rattle.meaning.proofs.terms.Terms.clause.Given as goal

abbrev pub invariant-loop-n : goal.invariant-loop-n
invariant-loop-n l =
    (length l.clause ≤ l.n-index) × (l.clause ≡ clause_from (map (literal_of l.self) (take l.n-index l.written)))
