-- The list of terms in its memory, while commands are read.
use Rattle.std.specs.Prelude.{◌≡◌, ℕ, ◌≤◌, List, take, Ok, Err, Result}
use Rattle.entries.specs.declared.entry.Name.{Name}
use Rattle.entries.specs.declared.entry.Term.{Term}
use Rattle.entries.specs.Filing.{room}
use Rattle.meaning.specs.Proper.{Proper}
use Rattle.declarations.specs.declared.fault.TermFault.{TermFault}
use Rattle.terms.specs.Reads.{Out, fails, gives}

-- The first n places of the memory are within the limit, and their terms proper.
pub record Ready (names : List Name) (memory : List Term) (n : ℕ) : Type 0 where
  pub few : n ≤ room 4096 memory
  pub proper : Proper names (take n memory)

-- Terms were added at the end: those that stood there stand there still.
pub record Grown (memory : List Term) (n : ℕ) (memory' : List Term) (n' : ℕ) : Type 0 where
  pub more : n ≤ n'
  pub kept : take n memory' ≡ take n memory

-- A function that answered r and left these terms did what an outcome says.
abbrev pub Does : Out → Result ℕ TermFault → List Term → Type 0
Does (fails f) r terms = r ≡ Err f
Does (gives n new) r terms = (r ≡ Ok n) × (terms ≡ new)
