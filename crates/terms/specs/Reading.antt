-- What reading from text answers, for every tree that spells the text.
use Rattle.entries.specs.declared.entry.Name.{Name}
use Rattle.entries.specs.declared.entry.Term.{Term}
use Rattle.std.specs.Prelude.{◌≡◌, ℕ, ◌≤◌, Bool, true, List, [], ◌∷◌, Ok, Err, Result}
use Rattle.text.specs.Reading.{left}
use Rattle.text.specs.Tokens.{Tok, closes}
use Rattle.text.specs.declared.reader.Reader.{Reader}
use Rattle.forms.specs.Trees.{Tree, Trees, count, spell, spells, Fits, First}
use Rattle.forms.specs.declared.item.Item.TheVariants as item
use Rattle.declarations.specs.declared.fault.TermFault.{TermFault}
use Rattle.terms.specs.Reads.{Out, fails, gives, Outs, stops, lists, read, reads}

-- What a reading function answers: a number and the tokens that follow, or a fault.
pub data Told : Type 0 where
  failed : TermFault → Told
  got : ℕ → List Tok → Told

abbrev pub told : Result (ℕ × Reader) TermFault → Told
told (Ok p) = got p.0 (left p.1)
told (Err f) = failed f

-- The answer is the outcome's: its fault; or its number with the tokens `rest` after the term, and the list is
-- then the outcome's.
abbrev pub Follows : Out → Told → List Term → List Tok → Type 0
Follows (fails f) answer terms rest = answer ≡ failed f
Follows (gives n new) answer terms rest = (answer ≡ got n rest) × (terms ≡ new)

-- A term comes first.
abbrev pub Begins : List Tok → Type 0
Begins text = (rest : List Tok) × First item.Term text rest

-- Whatever tree spells the tokens, what was done is what reading that tree gives.
abbrev pub ReadsTree : List Name → ℕ → Bool → List Tok → List Term → Told → List Term → Type 0
ReadsTree names most wants text old answer new =
    (t : Tree) (rest : List Tok) → text ≡ spell t rest → Follows (read names most wants t old) answer new rest

-- The same of arguments up to a closing bracket: their numbers, and the tokens that follow.
pub data ToldAll : Type 0 where
  failed_at : TermFault → ToldAll
  got_all : List ℕ → List Tok → ToldAll

abbrev pub told_all : Result (List ℕ × Reader) TermFault → ToldAll
told_all (Ok p) = got_all p.0 (left p.1)
told_all (Err f) = failed_at f

abbrev pub FollowsAll : Outs → ToldAll → List Term → List Tok → Type 0
FollowsAll (stops f) answer terms rest = answer ≡ failed_at f
FollowsAll (lists ns new) answer terms rest = (answer ≡ got_all ns rest) × (terms ≡ new)

-- At most 64 terms come first, and a closing bracket.
pub record BeginsAll (text : List Tok) : Type 0 where
  pub trees : Trees
  pub end : ℕ
  pub rest : List Tok
  pub few : count trees ≤ 64
  pub fits : Fits item.Term trees
  pub spelt : text ≡ spells trees (closes end ∷ rest)

abbrev pub ReadsTrees : List Name → ℕ → List Tok → List Term → ToldAll → List Term → Type 0
ReadsTrees names most text old answer new =
    (ts : Trees) (end : ℕ) (rest : List Tok) → text ≡ spells ts (closes end ∷ rest) → FollowsAll (reads names most ts [] old) answer new rest

-- Reading a claim: as reading its tree, which has to be Bool, says; a refusal leaves the list as it was.
abbrev pub Claims : Out → Result ℕ TermFault → List Term → List Term → Type 0
Claims (fails f) r old new = (r ≡ Err f) × (new ≡ old)
Claims (gives n terms) r old new = (r ≡ Ok n) × (new ≡ terms)

abbrev pub ReadsClaim : List Name → ℕ → List Tok → List Term → Result ℕ TermFault → List Term → Type 0
ReadsClaim names most text old r new =
    (t : Tree) (rest : List Tok) → text ≡ spell t rest → Claims (read names most true t old) r old new
