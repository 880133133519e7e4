-- Terms as trees with the places of their tokens, and the tokens that spell them.
use Rattle.std.specs.Prelude.{◌≡◌, ℕ, ◌+◌, ◌≤◌, List, ◌∷◌, codes, ◌≢◌}
use Rattle.text.specs.Tokens.{Tok, opens, closes, symbol, numeral}
use Rattle.forms.specs.declared.item.Item.{Item}
use Rattle.forms.specs.declared.item.Item.TheVariants.{Term, Symbol, Argument}

mutual
  -- A symbol, a numeral, or `( symbol term .. )`: each place is that of a token's first byte.
  pub data Tree : Type 0 where
    name : (at : ℕ) (bytes : List ℕ) → Tree
    number : (at value : ℕ) → Tree
    call : (at head : ℕ) (bytes : List ℕ) (args : Trees) (end : ℕ) → Tree

  pub data Trees : Type 0 where
    none : Trees
    more : Tree → Trees → Trees

abbrev pub count : Trees → ℕ
count none = 0
count (more t ts) = 1 + count ts

abbrev mutual
  -- The tokens of a tree, and then others.
  pub spell : Tree → List Tok → List Tok
  spell (name at bytes) rest = symbol at bytes ∷ rest
  spell (number at value) rest = numeral at value ∷ rest
  spell (call at head bytes args end) rest = opens at ∷ symbol head bytes ∷ spells args (closes end ∷ rest)

  pub spells : Trees → List Tok → List Tok
  spells none rest = rest
  spells (more t ts) rest = spell t (spells ts rest)

-- The place of a term is that of its first token.
abbrev pub start : Tree → ℕ
start (name at bytes) = at
start (number at value) = at
start (call at head bytes args end) = at

abbrev pub OneNumeral : Trees → Type 0
OneNumeral none = ⊥
OneNumeral (more (name at bytes) ts) = ⊥
OneNumeral (more (number at value) none) = Unit {0}
OneNumeral (more (number at value) (more t ts)) = ⊥
OneNumeral (more (call at head bytes args end) ts) = ⊥

abbrev mutual
  -- Which trees a list's items may be. A term's bracket has 1 to 64 arguments; an argument is a numeral or `(- numeral)`.
  pub Fit : Item → Tree → Type 0
  Fit Term (name at bytes) = Unit {0}
  Fit Term (number at value) = Unit {0}
  Fit Term (call at head bytes args end) = (1 ≤ count args) × (count args ≤ 64) × Fits Term args
  Fit Symbol (name at bytes) = Unit {0}
  Fit Symbol (number at value) = ⊥
  Fit Symbol (call at head bytes args end) = ⊥
  Fit Argument (name at bytes) = ⊥
  Fit Argument (number at value) = Unit {0}
  Fit Argument (call at head bytes args end) = (bytes ≡ codes "-") × OneNumeral args

  pub Fits : Item → Trees → Type 0
  Fits item none = Unit {0}
  Fits item (more t ts) = Fit item t × Fits item ts

-- An item comes first, and the others follow it.
pub record First (item : Item) (text rest : List Tok) : Type 0 where
  pub tree : Tree
  pub fit : Fit item tree
  pub spelt : text ≡ spell tree rest

-- The same, with the item's place.
pub record FirstAt (item : Item) (text : List Tok) (at : ℕ) (rest : List Tok) : Type 0 where
  pub tree : Tree
  pub fit : Fit item tree
  pub spelt : text ≡ spell tree rest
  pub starts : at ≡ start tree

abbrev pub NoneFirst : Item → List Tok → Type 0
NoneFirst item text = (t : Tree) (rest : List Tok) → Fit item t → text ≢ spell t rest

-- Items come first, at least so many and at most 64, then a closing bracket, and the others follow it.
pub record Listed (item : Item) (least : ℕ) (text rest : List Tok) : Type 0 where
  pub trees : Trees
  pub end : ℕ
  pub enough : least ≤ count trees
  pub few : count trees ≤ 64
  pub fits : Fits item trees
  pub spelt : text ≡ spells trees (closes end ∷ rest)

abbrev pub NotListed : Item → ℕ → List Tok → Type 0
NotListed item least text =
    (ts : Trees) (end : ℕ) (rest : List Tok) → least ≤ count ts → count ts ≤ 64 → Fits item ts → text ≢ spells ts (closes end ∷ rest)
