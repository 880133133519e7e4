-- Equality of heads, sorts, terms and literals, as tests.
use Rattle.std.specs.Prelude.{ℕ, Bool, true, false, ◌&&◌, ◌==◌}
use Rattle.std.specs.Str.{bytes_eq}
use Rattle.std.proofs.Math.Bool.{beq}
use Rattle.entries.specs.declared.entry.Head.{Head}
use Rattle.entries.specs.declared.entry.Head.TheVariants as head
use Rattle.entries.specs.declared.entry.Literal.{Literal}
use Rattle.entries.specs.declared.entry.Sort.{Sort}
use Rattle.entries.specs.declared.entry.Sort.TheVariants as sort
use Rattle.entries.specs.declared.entry.Term.{Term}

-- The place of a head in the list of heads.
abbrev pub kind_of : Head → ℕ
kind_of head.True = 0
kind_of head.False = 1
kind_of head.Not = 2
kind_of head.And = 3
kind_of head.Or = 4
kind_of head.Implies = 5
kind_of head.Equal = 6
kind_of head.Le = 7
kind_of head.Lt = 8
kind_of head.Ge = 9
kind_of head.Gt = 10
kind_of head.Plus = 11
kind_of head.Minus = 12
kind_of head.Times = 13
kind_of (head.Numeral n) = 14
kind_of (head.Declared f) = 15

-- The number that a head bears: a numeral's value, a declared name's number.
abbrev pub number_of : Head → ℕ
number_of head.True = 0
number_of head.False = 0
number_of head.Not = 0
number_of head.And = 0
number_of head.Or = 0
number_of head.Implies = 0
number_of head.Equal = 0
number_of head.Le = 0
number_of head.Lt = 0
number_of head.Ge = 0
number_of head.Gt = 0
number_of head.Plus = 0
number_of head.Minus = 0
number_of head.Times = 0
number_of (head.Numeral n) = n
number_of (head.Declared f) = f

-- Heads are of one kind where they differ at most in the numbers that they bear.
abbrev pub same_kind : Head → Head → Bool
same_kind h k = kind_of h == kind_of k

abbrev pub same_head : Head → Head → Bool
same_head h k = same_kind h k && number_of h == number_of k

abbrev pub same_sort : Sort → Sort → Bool
same_sort sort.Bool sort.Bool = true
same_sort sort.Bool sort.Int = false
same_sort sort.Bool (sort.Declared b) = false
same_sort sort.Int sort.Bool = false
same_sort sort.Int sort.Int = true
same_sort sort.Int (sort.Declared b) = false
same_sort (sort.Declared a) sort.Bool = false
same_sort (sort.Declared a) sort.Int = false
same_sort (sort.Declared a) (sort.Declared b) = a == b

-- Terms are equal where their heads, sorts and arguments are.
abbrev pub same_term : Term → Term → Bool
same_term t u = same_head t.head u.head && (same_sort t.sort u.sort && bytes_eq t.args u.args)

abbrev pub same_sign : Bool → Bool → Bool
same_sign a b = beq a b

-- Literals are equal where their signs and terms are.
abbrev pub same_literal : Literal → Literal → Bool
same_literal l m = same_sign l.negative m.negative && l.term == m.term
