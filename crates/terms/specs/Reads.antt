-- Reading a term into the list: arguments first, from the left, up to the first fault.
use Rattle.entries.specs.declared.entry.Name.{Name}
use Rattle.entries.specs.declared.entry.Term.{Term}
use Rattle.std.specs.Prelude.{ℕ, Bool, false, cond, not, ◌&&◌, ◌||◌, List, [], ◌∷◌, ◌++◌, Some, None, Option}
use Rattle.std.specs.Option.{option_map, option_or}
use Rattle.forms.specs.Trees.{Tree, name, number, call, Trees, none, more}
use Rattle.entries.specs.declared.entry.Head.{Head}
use Rattle.entries.specs.declared.entry.Head.TheVariants as head
use Rattle.entries.specs.declared.entry.Sort.TheVariants as sort
use Rattle.entries.specs.Equality.{same_sort}
use Rattle.entries.specs.Filing.{file}
use Rattle.meaning.specs.Proper.{well_formed}
use Rattle.meaning.specs.Sorts.{gives_sort}
use Rattle.declarations.specs.Known.{name_named}
use Rattle.declarations.specs.Words.{operator_of}
use Rattle.declarations.specs.declared.fault.TermFault.{TermFault}
use Rattle.declarations.specs.declared.fault.TermFault.TheVariants.{Unknown, Misfit, Full}

-- What reading a term gives: its number and the list then, or a fault.
pub data Out : Type 0 where
  fails : TermFault → Out
  gives : ℕ → List Term → Out

-- What reading arguments gives: their numbers and the list then, or a fault.
pub data Outs : Type 0 where
  stops : TermFault → Outs
  lists : List ℕ → List Term → Outs

-- The head that a word is, if any: an operator, or a declared name.
abbrev pub head_named : List Name → List ℕ → Option Head
head_named names word = option_or (operator_of word) (option_map head.Declared (name_named names word))

-- A term that may stand: its head takes its arguments, and it is Bool where that is due.
abbrev pub fitting : List Name → Bool → List Term → Head → List ℕ → Bool
fitting names wants terms h args = well_formed names terms h args && (not wants || same_sort (gives_sort names h) sort.Bool)

abbrev pub filed_as : ℕ → Option ℕ × List Term → Out
filed_as at (Some n, terms) = gives n terms
filed_as at (None, terms) = fails (Full at)

-- The term at a place with a head and arguments: it fits, and is found in the list or goes to its end.
abbrev pub made : List Name → ℕ → Bool → ℕ → Head → List ℕ → List Term → Out
made names most wants at h args terms =
    cond (fitting names wants terms h args)
    (filed_as at (file most terms (record { head = h; sort = gives_sort names h; args = args })))
    (fails (Misfit at))

-- The same with the head that a word at a place is.
abbrev pub known : List Name → ℕ → Bool → ℕ → ℕ → Option Head → List ℕ → List Term → Out
known names most wants at word None args terms = fails (Unknown word)
known names most wants at word (Some h) args terms = made names most wants at h args terms

abbrev pub with_args : Outs → (List ℕ → List Term → Out) → Out
with_args (stops f) k = fails f
with_args (lists args terms) k = k args terms

abbrev pub with_first : Out → (ℕ → List Term → Outs) → Outs
with_first (fails f) k = stops f
with_first (gives n terms) k = k n terms

abbrev mutual
  -- A tree is read into a list of at most so many terms; `wants` says that it has to be Bool.
  pub read : List Name → ℕ → Bool → Tree → List Term → Out
  read names most wants (name at bytes) terms = known names most wants at at (head_named names bytes) [] terms
  read names most wants (number at value) terms = made names most wants at (head.Numeral value) [] terms
  read names most wants (call at word bytes args end) terms =
      with_args (reads names most args [] terms) (λ ns ts. known names most wants at word (head_named names bytes) ns ts)

  -- Arguments are read one after another, behind those that are done.
  pub reads : List Name → ℕ → Trees → List ℕ → List Term → Outs
  reads names most none done terms = lists done terms
  reads names most (more t ts) done terms =
      with_first (read names most false t terms) (λ n new. reads names most ts (done ++ n ∷ []) new)
