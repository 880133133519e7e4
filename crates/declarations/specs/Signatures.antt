-- The sorts that the declaration of a function names, and what it makes.
use Rattle.entries.specs.declared.entry.Name.{Name}
use Rattle.std.specs.Prelude.{ℕ, List, [], ◌∷◌, Ok, Err, Result}
use Rattle.std.specs.Option.{ok_or}
use Rattle.entries.specs.declared.entry.Sort.{Sort}
use Rattle.forms.specs.Forms.{Named, DeclareFun}
use Rattle.forms.specs.Trees.{Tree, Trees, none, more, name, number, call}
use Rattle.declarations.specs.Known.{kept, sort_named}
use Rattle.declarations.specs.declared.fault.TermFault.{TermFault}
use Rattle.declarations.specs.declared.fault.TermFault.TheVariants.{Unknown}

infixr 20 ◌then◌
-- Go on with what was found; a fault ends it.
abbrev pub ◌then◌ : {X Y : Type 0} → Result X TermFault → (X → Result Y TermFault) → Result Y TermFault
Ok x then next = next x
Err f then next = Err f

-- The sort that a word names.
abbrev pub sort_of : List (List ℕ) → Named → Result Sort TermFault
sort_of sorts w = ok_or (sort_named sorts w.bytes) (Unknown w.at)

-- The sort that an item of a list names: only a word names one.
abbrev pub sort_of_item : List (List ℕ) → Tree → Result Sort TermFault
sort_of_item sorts (name at bytes) = sort_of sorts (record { at = at; bytes = bytes })
sort_of_item sorts (number at value) = Err (Unknown at)
sort_of_item sorts (call at head bytes args end) = Err (Unknown at)

-- The sorts that the items of a list name, from left to right.
abbrev pub sorts_of : List (List ℕ) → Trees → Result (List Sort) TermFault
sorts_of sorts none = Ok []
sorts_of sorts (more t ts) = sort_of_item sorts t then λ s. sorts_of sorts ts then λ ss. Ok (s ∷ ss)

-- The name that a declaration makes: the sorts of its arguments are looked up first, then that of its result.
abbrev pub signature : List (List ℕ) → DeclareFun → Result Name TermFault
signature sorts t =
    sorts_of sorts t.takes then λ takes. sort_of sorts t.gives then λ gives.
    Ok (record { word = kept t.function.bytes; takes = takes; gives = gives })
