-- The rules `resolution` and `th_resolution`.
use Rattle.std.specs.Prelude.{◌≡◌, ℕ, Bool, cond, ◌||◌, ◌⊎◌, List, [], length, codes, ◌≢◌, nat_lt}
use Rattle.std.specs.Str.{bytes_eq}
use Rattle.referee.specs.Meaning.{Meaning}
use Rattle.referee.specs.Questions.{Asked}
use Rattle.referee.specs.declared.ruling.Ruling.{Ruling}
use Rattle.referee.specs.declared.ruling.Ruling.TheVariants.{Yes, Unmet, Arguments, Overflow}
use Rattle.chains.specs.Chain.{Refutes}
use Rattle.chains.specs.Closure.{refutes}

-- The two names.
abbrev pub knows_chains : List ℕ → Bool
knows_chains name = bytes_eq name (codes "resolution") || bytes_eq name (codes "th_resolution")

-- Whether the clause follows from the premises by a chain.
abbrev pub judge_chain : Asked → Ruling
judge_chain q = cond (refutes q.clause q.premises) Yes Unmet

-- No argument is taken.
abbrev pub judge_bare : Asked → Ruling
judge_bare q = cond (nat_lt 0 (length q.args)) Arguments (judge_chain q)

-- What the referee of chains means.
abbrev pub chains : Meaning
chains = record { knows = knows_chains; judge = λ q. cond (knows_chains q.rule) (judge_bare q) Unmet }

-- The rule is one of the two.
abbrev pub Named : Asked → Type 0
Named q = (q.rule ≡ codes "resolution") ⊎ (q.rule ≡ codes "th_resolution")

-- A step that keeps the rule: it has one of the two names and no argument, and its clause follows from its premises by a chain.
pub record Kept (q : Asked) : Type 0 where
  pub named : Named q
  pub bare : q.args ≡ []
  pub follows : Refutes q.clause q.premises

-- The rulings in words: yes exactly to the steps that keep the rule, `Arguments` exactly where one of the two names comes with an
-- argument, never `Overflow`, and so `Unmet` to all else.
pub record Ruled (q : Asked) : Type 0 where
  pub yes : chains.judge q ≡ Yes → Kept q
  pub kept : Kept q → chains.judge q ≡ Yes
  pub arguments : chains.judge q ≡ Arguments → Named q × (q.args ≢ [])
  pub argued : Named q → (q.args ≢ []) → chains.judge q ≡ Arguments
  pub never : chains.judge q ≡ Overflow → ⊥

-- Every question is ruled on in this way.
abbrev pub RulingsInWords : Type 0
RulingsInWords = (q : Asked) → Ruled q
