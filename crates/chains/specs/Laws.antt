-- What chains are worth.
use Rattle.std.specs.Prelude.{◌≡◌, ℕ, Bool, true, List, Decides, ◌≢◌}
use Rattle.std.specs.List.{ContainsAt as Has, list_any, list_all}
use Rattle.entries.specs.declared.entry.Literal.{Literal}
use Rattle.entries.specs.Clauses.{complement_of, holds_literal}
use Rattle.meaning.specs.Truth.{signed}
use Rattle.chains.specs.Chain.{Derived, Refutes}
use Rattle.chains.specs.Closure.{closure, refutes}

-- A clause is true where one of its literals is; `truth` says which terms are true.
abbrev pub true_under : (ℕ → Bool) → List Literal → Bool
true_under truth clause = list_any (λ (l : Literal). signed l.negative (truth l.term)) clause

-- Whatever terms are true: if all premises are, then so is a clause that follows from them by a chain.
abbrev pub ChainLaw : Type 0
ChainLaw =
    (clause : List Literal) (premises : List (List Literal)) → Refutes clause premises →
    (truth : ℕ → Bool) → list_all (true_under truth) premises ≡ true → true_under truth clause ≡ true

-- A set of literals that holds the complements of the clause's literals and that, where the other literals of a premise all have
-- their complement in it, holds the remaining one.
pub record Saturated (clause : List Literal) (premises : List (List Literal)) (set : Literal → Bool) : Type 0 where
  pub denied : (l : Literal) → Has clause l → set (complement_of l) ≡ true
  pub forced :
      (p : List Literal) (l : Literal) → Has premises p → Has p l →
      ((m : Literal) → Has p m → (m ≢ l) → set (complement_of m) ≡ true) → set l ≡ true

-- The closure is such a set, it lies in every such set, and it holds exactly what is derived.
pub record Least (clause : List Literal) (premises : List (List Literal)) : Type 0 where
  pub saturated : Saturated clause premises (holds_literal (closure clause premises))
  pub within : (set : Literal → Bool) → Saturated clause premises set → (l : Literal) → holds_literal (closure clause premises) l ≡ true → set l ≡ true
  pub derived : (l : Literal) → Decides (holds_literal (closure clause premises) l) (Derived clause premises l)

-- The closure that is worked out in rounds is the least set.
abbrev pub ClosureIsLeast : Type 0
ClosureIsLeast = (clause : List Literal) (premises : List (List Literal)) → Least clause premises

-- The closure tells exactly what follows by a chain.
abbrev pub ChainsDecided : Type 0
ChainsDecided = (clause : List Literal) (premises : List (List Literal)) → Decides (refutes clause premises) (Refutes clause premises)
