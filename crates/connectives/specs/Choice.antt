-- A choice of T and of φᵢ, as the code holds it.
use Rattle.std.specs.Prelude.{ℕ, List}
use Rattle.entries.specs.declared.entry.Literal.{Literal}
use Rattle.entries.specs.declared.entry.Term.{Term}
use Rattle.meaning.specs.Proper.{term_at}
use Rattle.connectives.specs.declared.table.Part.{Part}
use Rattle.connectives.specs.declared.table.Piece.{Piece}
use Rattle.connectives.specs.Rules.{stands_for, piece_literals, clause_by}

-- T is the term with the number `term`, and φᵢ its argument number `picked`, counted from 0.
pub record Chosen : Type 0 where
  pub terms : List Term
  pub term : ℕ
  pub picked : ℕ

abbrev pub args_of : Chosen → List ℕ
args_of c = (term_at c.terms c.term).args

-- The terms that a letter stands for, and the literals of a piece and of several.
abbrev pub terms_for : Chosen → Part → List ℕ
terms_for c p = stands_for p c.term c.picked (args_of c)

abbrev pub literals_for : Chosen → Piece → List Literal
literals_for c p = piece_literals c.terms c.term c.picked p

abbrev pub clause_for : Chosen → List Piece → List Literal
clause_for c ps = clause_by c.terms c.term c.picked ps
