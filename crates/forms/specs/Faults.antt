-- The faults of the form layer: their numbers, places and words, and how deep brackets may nest.
use Rattle.std.specs.Prelude.{◌≡◌, ℕ, ◌+◌, ◌-◌, cond, List, [], ◌∷◌, Some, None, Ok, Err, Option, Result, nat_lt, codes}
use Rattle.text.specs.Tokens.{Tok, opens, closes, symbol, keyword, numeral, fault}
use Rattle.forms.specs.declared.fault.FormFault.{FormFault}
use Rattle.forms.specs.declared.fault.FormFault.TheVariants.{TooDeep, NoForm}

-- The number that people see for a fault.
abbrev pub number_of : FormFault → ℕ
number_of (TooDeep at) = 21
number_of NoForm = 20

-- The place of a fault.
abbrev pub place_of : FormFault → ℕ
place_of (TooDeep at) = at
place_of NoForm = 0

-- What people read of a fault.
abbrev pub message_of : FormFault → List ℕ
message_of (TooDeep at) = codes "more than 32 brackets open at once"
message_of NoForm = codes "not a command of this part"

-- How many brackets are open after a token. A stray closing bracket closes none.
abbrev pub depth_after : ℕ → Tok → ℕ
depth_after depth (opens at) = depth + 1
depth_after depth (closes at) = depth - 1
depth_after depth (symbol at bytes) = depth
depth_after depth (keyword at bytes) = depth
depth_after depth (numeral at value) = depth
depth_after depth (fault f) = depth

-- The place of the first bracket that makes more than 32 open, where `depth` are open before the tokens. Nothing is read past a fault.
abbrev pub too_deep : ℕ → List Tok → Option ℕ
too_deep depth [] = None
too_deep depth (opens at ∷ ts) = cond (nat_lt depth 32) (too_deep (depth_after depth (opens at)) ts) (Some at)
too_deep depth (closes at ∷ ts) = too_deep (depth_after depth (closes at)) ts
too_deep depth (symbol at bytes ∷ ts) = too_deep depth ts
too_deep depth (keyword at bytes ∷ ts) = too_deep depth ts
too_deep depth (numeral at value ∷ ts) = too_deep depth ts
too_deep depth (fault f ∷ ts) = None

-- What the depth of brackets says of tokens: at most 32 are ever open, or this one makes more.
abbrev pub Shallow : List Tok → Result Unit FormFault → Type 0
Shallow tokens (Ok t) = too_deep 0 tokens ≡ None
Shallow tokens (Err (TooDeep at)) = too_deep 0 tokens ≡ Some at
Shallow tokens (Err NoForm) = ⊥
