-- The words that have a meaning before anything is declared.
use Rattle.std.specs.Prelude.{ℕ, Bool, cond, ◌||◌, List, [], ◌∷◌, is_some, Some, None, codes, Option}
use Rattle.std.specs.Str.{bytes_eq}
use Rattle.entries.specs.declared.entry.Head.{Head}
use Rattle.entries.specs.declared.entry.Head.TheVariants as head
use Rattle.entries.specs.declared.entry.Sort.{Sort}
use Rattle.entries.specs.declared.entry.Sort.TheVariants as sort

-- An operator: the word for it and the head of its terms.
pub record Operator : Type 0 where
  pub word : List ℕ
  pub head : Head

infix 30 ◌means◌
-- A word, and what it means as an operator.
abbrev pub ◌means◌ : List ℕ → Head → Operator
word means head = record { word = word; head = head }

-- All operators. `true` and `false` are operators of no arguments.
unfoldable pub operators : List Operator
operators =
    (codes "true" means head.True)
    ∷ (codes "false" means head.False)
    ∷ (codes "not" means head.Not)
    ∷ (codes "and" means head.And)
    ∷ (codes "or" means head.Or)
    ∷ (codes "=>" means head.Implies)
    ∷ (codes "=" means head.Equal)
    ∷ (codes "<=" means head.Le)
    ∷ (codes "<" means head.Lt)
    ∷ (codes ">=" means head.Ge)
    ∷ (codes ">" means head.Gt)
    ∷ (codes "+" means head.Plus)
    ∷ (codes "-" means head.Minus)
    ∷ (codes "*" means head.Times)
    ∷ []

-- The head of the first operator with a word.
abbrev pub head_in : List Operator → List ℕ → Option Head
head_in [] word = None
head_in (o ∷ os) word = cond (bytes_eq word o.word) (Some o.head) (head_in os word)

-- The operator that a word is, if any.
abbrev pub operator_of : List ℕ → Option Head
operator_of word = head_in operators word

-- The sort that a word is with no declaration, if any.
abbrev pub built_in : List ℕ → Option Sort
built_in word = cond (bytes_eq word (codes "Bool")) (Some sort.Bool) (cond (bytes_eq word (codes "Int")) (Some sort.Int) None)

-- Words that cannot be declared.
abbrev pub is_reserved : List ℕ → Bool
is_reserved word = is_some (operator_of word) || is_some (built_in word)
