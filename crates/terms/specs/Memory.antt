-- The list that a command is read into.
use Rattle.std.specs.Prelude.{◌≡◌, ℕ, List, length, take}
use Rattle.entries.specs.declared.entry.Term.{Term}
use Rattle.entries.specs.Filing.{room}
use Rattle.terms.specs.State.{Grown}
use Rattle.terms.specs.declared.list.TermList.{TermList}

-- The terms of the list.
abbrev pub listed : TermList → List Term
listed r = take r.count.now r.terms.now

-- So many terms it has room for.
abbrev pub most : TermList → ℕ
most r = room 4096 r.terms.now

-- Terms were added at the end, under the same names and in the same memory.
pub record Onward (old new : TermList) : Type 0 where
  pub names : new.names ≡ old.names
  pub terms : new.terms.ghost_name ≡ old.terms.ghost_name
  pub count : new.count.ghost_name ≡ old.count.ghost_name
  pub long : length new.terms.now ≡ length old.terms.now
  pub grown : Grown old.terms.now old.count.now new.terms.now new.count.now
