-- Solver chatter: what solvers write around problems and proofs, decided by tokens.
use Rattle.std.specs.Prelude.{◌≡◌, ℕ, ◌⊎◌, List, [], ◌∷◌, codes}
use Rattle.text.specs.Tokens.{Tok, opens, closes, symbol, tokens}
use Rattle.pieces.specs.Laws.{Balanced}
use Rattle.commands.specs.declared.part.Part.{Part}
use Rattle.commands.specs.declared.part.Part.TheVariants.{Problem, Proof}

-- The words that a solver answers with.
abbrev pub Answer : List ℕ → Type 0
Answer word = (word ≡ codes "unsat") ⊎ (word ≡ codes "success")

-- The words that ask it for something.
abbrev pub Request : List ℕ → Type 0
Request word = (word ≡ codes "check-sat") ⊎ ((word ≡ codes "get-proof") ⊎ (word ≡ codes "exit"))

-- The words that set it up.
abbrev pub Setting : List ℕ → Type 0
Setting word = (word ≡ codes "set-option") ⊎ (word ≡ codes "set-info")

-- In the proof file: an answer alone.
pub data Answers (ts : List Tok) : Type 0 where
  answer : (at : ℕ) (word : List ℕ) → Answer word → ts ≡ symbol at word ∷ [] → Answers ts

-- In the problem file: a request alone in brackets, or a bracket and a setting, and whatever follows.
pub data Requests (ts : List Tok) : Type 0 where
  request : (at head : ℕ) (word : List ℕ) (end : ℕ) → Request word → ts ≡ opens at ∷ symbol head word ∷ closes end ∷ [] → Requests ts
  setting : (at head : ℕ) (word : List ℕ) (rest : List Tok) → Setting word → ts ≡ opens at ∷ symbol head word ∷ rest → Requests ts

abbrev pub Speech : Part → List Tok → Type 0
Speech Problem ts = Requests ts
Speech Proof ts = Answers ts

-- A text whose brackets do not balance is no chatter: it may hold commands that are to be seen.
pub record Chatter (part : Part) (text : List ℕ) : Type 0 where
  pub whole : Balanced text
  pub speech : Speech part (tokens text)
