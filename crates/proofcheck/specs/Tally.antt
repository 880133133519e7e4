-- What the layers make of the commands of a file, counted.
use Rattle.std.specs.Prelude.{◌≡◌, Bool, List, [], ◌∷◌, sum_by, count_by, ◌==◌, slice_index}
use Rattle.text.specs.Parts.{Part as Piece}
use Rattle.commands.specs.Outcomes.{Comes, kind_of, number, command_count, token_count}
use Rattle.commands.specs.declared.kind.Kind.{Kind}
use Rattle.commands.specs.declared.outcome.Outcome.{Outcome}
use Rattle.commands.specs.declared.part.Part.{Part}
use Rattle.proofcheck.specs.declared.report.Report.{Report}

-- Each command comes to its outcome.
abbrev pub Each : Part → List Piece → List Outcome → Type 0
Each part [] [] = Unit {0}
Each part [] (o ∷ os) = ⊥
Each part (p ∷ ps) [] = ⊥
Each part (p ∷ ps) (o ∷ os) = Comes part p.bytes o × Each part ps os

-- Whether an outcome is of a kind.
abbrev pub is_of : Kind → Outcome → Bool
is_of k o = number (kind_of o) == number k

-- A report counts the accepted commands, their tokens, and the outcomes of each kind.
pub record Tallied (part : Part) (commands : List Piece) (report : Report) : Type 0 where
  pub outcomes : List Outcome
  pub each : Each part commands outcomes
  pub accepted : report.commands ≡ sum_by command_count outcomes
  pub read : report.tokens ≡ sum_by token_count outcomes
  pub kinds : (k : Kind) → slice_index report.counts (number k) ≡ count_by (is_of k) outcomes
