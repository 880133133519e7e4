-- Equalities by their two sides.
use Rattle.entries.specs.declared.entry.Term.{Term}
use Rattle.std.specs.Prelude.{ℕ, Bool, false, cond, ◌&&◌, List, [], ◌∷◌, Some, None, Option, ◌==◌}
use Rattle.std.specs.List.{list_all}
use Rattle.entries.specs.declared.entry.Head.TheVariants as head
use Rattle.entries.specs.declared.entry.Literal.{Literal}
use Rattle.entries.specs.Equality.{same_kind, same_sign, same_literal}
use Rattle.meaning.specs.Proper.{term_at}
use Rattle.equality.specs.declared.sides.Sides.{Sides}

-- Two numbers as sides.
abbrev pub two_of : List ℕ → Option Sides
two_of [] = None
two_of (s ∷ []) = None
two_of (s ∷ t ∷ []) = Some (record { left = s; right = t })
two_of (s ∷ t ∷ u ∷ ns) = None

-- The sides of a term, if it is an equality.
abbrev pub sides_of : Term → Option Sides
sides_of t = cond (same_kind t.head head.Equal) (two_of t.args) None

-- The sides of a literal, if it has this sign and its term is an equality.
abbrev pub equated : List Term → Bool → Literal → Option Sides
equated terms negative l = cond (same_sign l.negative negative) (sides_of (term_at terms l.term)) None

-- The literal of a clause that, as a set, has one.
abbrev pub only_of : List Literal → Option Literal
only_of [] = None
only_of (l ∷ ls) = cond (list_all (same_literal l) (l ∷ ls)) (Some l) None

-- The sides of a literal that there may be, if it is a positive equality.
abbrev pub positive_of : List Term → Option Literal → Option Sides
positive_of terms None = None
positive_of terms (Some l) = equated terms false l

-- The sides of the equality that, as a set, is the clause.
abbrev pub lone : List Term → List Literal → Option Sides
lone terms c = positive_of terms (only_of c)

-- There are sides, and they meet the test.
abbrev pub such : Option Sides → (Sides → Bool) → Bool
such None test = false
such (Some e) test = test e

-- There are sides, and they are the given ones.
abbrev pub is_sides : Option Sides → Sides → Bool
is_sides o p = such o (λ e. (e.left == p.left) && e.right == p.right)
