-- The two declarations: what they answer, and the list of what they declare afterwards.
use Rattle.entries.specs.declared.entry.Name.{Name}
use Rattle.std.specs.Prelude.{ℕ, cond, List, [], ◌∷◌, ◌++◌, length, Ok, Err, Result, nat_lt}
use Rattle.forms.specs.Forms.{Named, DeclareFun}
use Rattle.declarations.specs.Known.{kept, is_taken}
use Rattle.declarations.specs.Signatures.{signature}
use Rattle.declarations.specs.declared.fault.TermFault.{TermFault}
use Rattle.declarations.specs.declared.fault.TermFault.TheVariants.{Taken, Full}

-- The answer, and the list afterwards.
abbrev pub Outcome : Type 0 → Type 0
Outcome X = Result (Unit {0}) TermFault × List X

-- A fault leaves the list as it was.
abbrev pub refused : {X : Type 0} → TermFault → List X → Outcome X
refused f xs = (Err f, xs)

-- An entry goes to the end of a list that has room for so many.
abbrev pub at_end : {X : Type 0} → ℕ → List X → ℕ → X → Outcome X
at_end most xs at x = cond (nat_lt (length xs) most) (Ok tt, xs ++ x ∷ []) (refused (Full at) xs)

-- `(declare-sort S 0)`
abbrev pub declared_sort : ℕ → List (List ℕ) → List Name → Named → Outcome (List ℕ)
declared_sort most sorts names w =
    cond (is_taken sorts names w.bytes) (refused (Taken w.at) sorts) (at_end most sorts w.at (kept w.bytes))

-- What a declaration makes goes to the end, if it makes anything.
abbrev pub filed : ℕ → List Name → ℕ → Result Name TermFault → Outcome Name
filed most names at (Ok n) = at_end most names at n
filed most names at (Err f) = refused f names

-- `(declare-fun f (S ..) S)`
abbrev pub declared_fun : ℕ → List (List ℕ) → List Name → DeclareFun → Outcome Name
declared_fun most sorts names t =
    cond (is_taken sorts names t.function.bytes) (refused (Taken t.function.at) names)
    (filed most names t.function.at (signature sorts t))
