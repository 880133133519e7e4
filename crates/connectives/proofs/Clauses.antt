-- A clause is, as a set, what letters stand for.
use Rattle.std.proofs.Common.{◌≡◌, Bool, true, false, ◌&&◌, List, sym, ap, ◌∙◌}
use Rattle.std.specs.List.{list_any, list_all}
use Rattle.entries.specs.declared.entry.Literal.{Literal}
use Rattle.entries.specs.Clauses.{holds_literal}
use Rattle.entries.specs.Equality.{same_literal}
use Rattle.referee.specs.Sets.{same_set}
use Rattle.referee.proofs.Scans.{some_joined, every_joined}
use Rattle.connectives.specs.declared.table.Piece.{Piece}
use Rattle.connectives.specs.Choice.{Chosen, literals_for, clause_for}

module _ (c : Chosen) (ps : List Piece) (clause : List Literal) where
  pub all_lem : list_all (λ p. list_all (holds_literal clause) (literals_for c p)) ps ≡ list_all (holds_literal clause) (clause_for c ps)
  all_lem = sym (every_joined (holds_literal clause) (literals_for c) ps)

  pub given_lem : list_all (λ l. list_any (λ p. holds_literal (literals_for c p) l) ps) clause ≡ list_all (holds_literal (clause_for c ps)) clause
  given_lem = λ i. list_all (λ l. sym (some_joined (λ m. same_literal m l) (literals_for c) ps) i) clause

  pub clause_when : (b : Bool) → true ≡ list_all (λ p. list_all (holds_literal clause) (literals_for c p)) ps →
      b ≡ list_all (λ l. list_any (λ p. holds_literal (literals_for c p) l) ps) clause → b ≡ same_set clause (clause_for c ps)
  clause_when b all given = given ∙ given_lem ∙ ap (λ x. x && list_all (holds_literal (clause_for c ps)) clause) (all ∙ all_lem)

  pub clause_unless : false ≡ list_all (λ p. list_all (holds_literal clause) (literals_for c p)) ps → false ≡ same_set clause (clause_for c ps)
  clause_unless all = ap (λ x. x && list_all (holds_literal (clause_for c ps)) clause) (all ∙ all_lem)
