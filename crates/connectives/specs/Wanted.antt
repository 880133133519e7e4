-- What letters stand for, piece by piece.
use Rattle.std.specs.Prelude.{◌≡◌, ℕ, ◌<◌, List, drop}
use Rattle.std.proofs.Common.{arith}
use Rattle.std.specs.List.{AllByRecursion, list_all}
use Rattle.std.proofs.ByRecursion.{All-take, All-drop, All-weaker}
use Rattle.entries.specs.declared.entry.Literal.{Literal}
use Rattle.entries.specs.declared.entry.Term.{Term}
use Rattle.entries.specs.Clauses.{holds_literal}
use Rattle.referee.proofs.Scans.{every_joined}
use Rattle.connectives.specs.declared.table.Part.{Part}
use Rattle.connectives.specs.declared.table.Part.TheVariants as part
use Rattle.connectives.specs.declared.table.Piece.{Piece}
use Rattle.connectives.specs.Rules.{stands_for, piece_literals, clause_by}

-- ---- what a letter stands for is among the terms
pub stands_below : (m t i : ℕ) (ns : List ℕ) → t < m → AllByRecursion (λ n. n < t) ns → (p : Part) → AllByRecursion (λ n. n < m) (stands_for p t i ns)
stands_below m t i ns h w p =
    let u = All-weaker (λ n. n < t) (λ n. n < m) (λ n l. omega arith) ns w in go p u
  where
    go : (p : Part) → AllByRecursion (λ n. n < m) ns → AllByRecursion (λ n. n < m) (stands_for p t i ns)
    go part.Whole u = (h, tt)
    go part.Picked u = All-take (λ n. n < m) 1 (drop i ns) (All-drop (λ n. n < m) i ns u)
    go part.All u = u
    go part.First u = All-take (λ n. n < m) 1 ns u
    go part.Second u = All-take (λ n. n < m) 1 (drop 1 ns) (All-drop (λ n. n < m) 1 ns u)

-- ---- all pieces
pub wanted_all : (terms : List Term) (t i : ℕ) (ps : List Piece) (clause : List Literal) →
    list_all (holds_literal clause) (clause_by terms t i ps) ≡ list_all (λ p. list_all (holds_literal clause) (piece_literals terms t i p)) ps
wanted_all terms t i ps clause = every_joined (holds_literal clause) (piece_literals terms t i) ps
