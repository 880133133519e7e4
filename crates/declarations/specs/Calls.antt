-- What the calls answer of a text and of lists in memories.
use Rattle.std.specs.Prelude.{◌≡◌, ℕ, ◌≤◌, List, ◌∷◌, take, Result}
use Rattle.entries.specs.declared.entry.Name.{Name}
use Rattle.entries.specs.declared.entry.Sort.{Sort}
use Rattle.entries.specs.Filing.{room}
use Rattle.forms.specs.Forms.{Named, DeclareFun, declare_fun, spell_problem, FitDeclareFun}
use Rattle.forms.specs.Parsed.{Entry, function, kept_declare_fun, named}
use Rattle.forms.specs.Trees.{Trees, count, spells, Fits, Listed}
use Rattle.forms.specs.declared.item.Item.TheVariants as item
use Rattle.text.specs.Tokens.{Tok, closes, tokens}
use Rattle.declarations.specs.Declaring.{declared_sort, declared_fun}
use Rattle.declarations.specs.Signatures.{sorts_of, signature}
use Rattle.declarations.specs.declared.fault.TermFault.{TermFault}
use Rattle.declarations.specs.declared.function.Function.{Function}

-- Declaring a sort, where n sorts stand in the memory before, and n' after.
abbrev pub DeclaresSort : List (List ℕ) → ℕ → List Name → Named → Result (Unit {0}) TermFault → List (List ℕ) → ℕ → Type 0
DeclaresSort sorts n names w r sorts' n' = (r, take n' sorts') ≡ declared_sort (room 32 sorts) (take n sorts) names w

-- What the code has kept of the declaration of a function.
abbrev pub seen_function : Function → Entry
seen_function f = function (named f.name) f.takes (named f.gives)

-- A text is the declaration t, and f is what is kept of it.
pub record Declaration (text : List ℕ) (f : Entry) (t : DeclareFun) : Type 0 where
  pub at : ℕ
  pub head : ℕ
  pub fit : FitDeclareFun t
  pub spelt : tokens text ≡ spell_problem (declare_fun at head t)
  pub same : f ≡ kept_declare_fun t

-- A text is the declaration of a function, of which f is kept.
abbrev pub IsDeclaration : List ℕ → Entry → Type 0
IsDeclaration text f = (t : DeclareFun) × Declaration text f t

-- Declaring the function of a text, where m names stand in the memory before, and m' after.
abbrev pub DeclaresFun : List ℕ → Entry → List (List ℕ) → List Name → ℕ → Result (Unit {0}) TermFault → List Name → ℕ → Type 0
DeclaresFun text f sorts names m r names' m' =
    (t : DeclareFun) → Declaration text f t → (r, take m' names') ≡ declared_fun (room 512 names) sorts (take m names) t

-- Making the name of a text's declaration, likewise.
abbrev pub Makes : List ℕ → Entry → List (List ℕ) → Result Name TermFault → Type 0
Makes text f sorts r = (t : DeclareFun) → Declaration text f t → r ≡ signature sorts t

-- Items of a list come first that are words, and a closing bracket after them.
abbrev pub IsListed : List Tok → Type 0
IsListed tokens = (rest : List Tok) × Listed item.Symbol 0 tokens rest

-- Reading a list gives the sorts that its items name.
abbrev pub ReadsSorts : List (List ℕ) → List Tok → Result (List Sort) TermFault → Type 0
ReadsSorts sorts tokens r =
    (ts : Trees) (end : ℕ) (rest : List Tok) → count ts ≤ 64 → Fits item.Symbol ts → tokens ≡ spells ts (closes end ∷ rest) →
    r ≡ sorts_of sorts ts
