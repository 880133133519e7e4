-- What a referee is asked.
use Rattle.std.specs.Prelude.{ℕ, ◌<◌, ◌≤◌, List, length, ℤ, unsigned_abs}
use Rattle.std.specs.List.{AllByRecursion}
use Rattle.entries.specs.declared.entry.Literal.{Literal}
use Rattle.entries.specs.declared.entry.Term.{Term}
use Rattle.meaning.specs.Proper.{Formed}
use Rattle.referee.specs.declared.question.Question.{Question}

-- A question: the terms of the sheet, the name of a rule, a clause, the premises' clauses in order, and arguments.
pub record Asked : Type 0 where
  pub terms : List Term
  pub rule : List ℕ
  pub clause : List Literal
  pub premises : List (List Literal)
  pub args : List ℤ

abbrev pub asked : Question → Asked
asked q = record {
  terms = q.terms.now;
  rule = q.rule.now;
  clause = q.clause.now;
  premises = q.premises.now;
  args = q.args.now;
}

-- The literal's term is one of the list.
abbrev pub Among : List Term → Literal → Type 0
Among terms l = l.term < length terms

-- What every question keeps: its terms have the order, counts and sorts that they have to have, and its literals are among
-- them; the numbers of terms, of literals and the size of an argument are within the limits.
pub record Posed (q : Asked) : Type 0 where
  pub formed : Formed q.terms
  pub few : length q.terms ≤ 4096
  pub clause : AllByRecursion (Among q.terms) q.clause
  pub short : length q.clause ≤ 64
  pub premises : AllByRecursion (AllByRecursion (Among q.terms)) q.premises
  pub small : AllByRecursion (λ a. unsigned_abs a ≤ 1000000) q.args
