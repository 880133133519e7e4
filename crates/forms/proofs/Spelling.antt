-- What a tree spells shows the tree and what follows it.
use Rattle.std.proofs.Common.{◌≡◌, ℕ, List, ◌∷◌, sym, refl, arith}
use Rattle.text.specs.Tokens.{Tok, closes, keyword}
use Rattle.forms.specs.Trees.{Tree, name, number, call, Trees, none, more, spell, spells}

-- two constructors are never equal: `cc` then shows this
pub off : {X : Type 0} → ◌≡◌ {A = ℕ} 0 1 → X
off e = absurd (omega arith)

-- what follows the first token of a list, said in two ways
pub tails : {x y : Tok} {text A B : List Tok} → text ≡ x ∷ A → text ≡ y ∷ B → A ≡ B
tails p q = cc

pub not_close : (t : Tree) (rest others : List Tok) (at : ℕ) → spell t rest ≡ closes at ∷ others → ⊥
not_close (name a w) rest others at e = off (cc)
not_close (number a v) rest others at e = off (cc)
not_close (call a h w ts z) rest others at e = off (cc)

pub not_keyword : (t : Tree) (rest others : List Tok) (at : ℕ) (w : List ℕ) → spell t rest ≡ keyword at w ∷ others → ⊥
not_keyword (name a v) rest others at w e = off (cc)
not_keyword (number a v) rest others at w e = off (cc)
not_keyword (call a h v ts z) rest others at w e = off (cc)

mutual
  pub same_tree : (t u : Tree) (A B : List Tok) → spell t A ≡ spell u B → (t ≡ u) × (A ≡ B)
  same_tree (name a w) (name b v) A B e = (cc, cc)
  same_tree (name a w) (number b v) A B e = off (cc)
  same_tree (name a w) (call b h v us z) A B e = off (cc)
  same_tree (number a w) (name b v) A B e = off (cc)
  same_tree (number a w) (number b v) A B e = (cc, cc)
  same_tree (number a w) (call b h v us z) A B e = off (cc)
  same_tree (call a g w ts y) (name b v) A B e = off (cc)
  same_tree (call a g w ts y) (number b v) A B e = off (cc)
  same_tree (call a g w ts y) (call b h v us z) A B e =
      let inner : spells ts (closes y ∷ A) ≡ spells us (closes z ∷ B) = cc in
      let k = same_trees ts us y z A B inner in
      let args : ts ≡ us = k.0 in
      let end : y ≡ z = k.1 in
      (cc, k.2)

  pub same_trees : (ts us : Trees) (y z : ℕ) (A B : List Tok) → spells ts (closes y ∷ A) ≡ spells us (closes z ∷ B) → (ts ≡ us) × (y ≡ z) × (A ≡ B)
  same_trees none none y z A B e = (refl, cc, cc)
  same_trees none (more u us) y z A B e = absurd (not_close u (spells us (closes z ∷ B)) A y (sym e))
  same_trees (more t ts) none y z A B e = absurd (not_close t (spells ts (closes y ∷ A)) B z e)
  same_trees (more t ts) (more u us) y z A B e =
      let h = same_tree t u (spells ts (closes y ∷ A)) (spells us (closes z ∷ B)) e in
      let k = same_trees ts us y z A B h.1 in
      let head : t ≡ u = h.0 in
      let tail : ts ≡ us = k.0 in
      (cc, k.1, k.2)
