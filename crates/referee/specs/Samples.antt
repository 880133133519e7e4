-- A small list of terms for worked cases: p and q are Bool, a, b and c are Int, f takes an Int and gives one.
use Rattle.std.specs.Prelude.{ℕ, true, false, List, [], ◌∷◌, ℤ, codes}
use Rattle.entries.specs.declared.entry.Head.{Head}
use Rattle.entries.specs.declared.entry.Head.TheVariants as head
use Rattle.entries.specs.declared.entry.Literal.{Literal}
use Rattle.entries.specs.declared.entry.Name.{Name}
use Rattle.entries.specs.declared.entry.Sort.TheVariants as sort
use Rattle.entries.specs.declared.entry.Term.{Term}
use Rattle.referee.specs.Questions.{Asked}

abbrev pub names : List Name
names =
    record { word = codes "p"; takes = []; gives = sort.Bool } ∷
    record { word = codes "q"; takes = []; gives = sort.Bool } ∷
    record { word = codes "a"; takes = []; gives = sort.Int } ∷
    record { word = codes "b"; takes = []; gives = sort.Int } ∷
    record { word = codes "c"; takes = []; gives = sort.Int } ∷
    record { word = codes "f"; takes = sort.Int ∷ []; gives = sort.Int } ∷
    []

abbrev bool : Head → List ℕ → Term
bool h args = record { head = h; sort = sort.Bool; args = args }

abbrev int : Head → List ℕ → Term
int h args = record { head = h; sort = sort.Int; args = args }

-- The number of each term.
abbrev pub p : ℕ
p = 0

abbrev pub q : ℕ
q = 1

abbrev pub p_and_q : ℕ
p_and_q = 2

abbrev pub a : ℕ
a = 3

abbrev pub b : ℕ
b = 4

abbrev pub c : ℕ
c = 5

abbrev pub a_is_b : ℕ
a_is_b = 6

abbrev pub b_is_c : ℕ
b_is_c = 7

abbrev pub a_is_c : ℕ
a_is_c = 8

abbrev pub b_is_a : ℕ
b_is_a = 9

abbrev pub f_a : ℕ
f_a = 10

abbrev pub f_b : ℕ
f_b = 11

abbrev pub f_a_is_f_b : ℕ
f_a_is_f_b = 12

abbrev pub nought : ℕ
nought = 13

abbrev pub a_at_most_0 : ℕ
a_at_most_0 = 14

abbrev pub one : ℕ
one = 15

abbrev pub four : ℕ
four = 16

abbrev pub four_a : ℕ
four_a = 17

abbrev pub one_and_four_a : ℕ
one_and_four_a = 18

abbrev pub one_and_four_a_at_most_1 : ℕ
one_and_four_a_at_most_1 = 19

abbrev pub a_below_1 : ℕ
a_below_1 = 20

abbrev pub one_below_a : ℕ
one_below_a = 21

abbrev pub terms : List Term
terms =
    bool (head.Declared 0) [] ∷
    bool (head.Declared 1) [] ∷
    bool head.And (p ∷ q ∷ []) ∷
    int (head.Declared 2) [] ∷
    int (head.Declared 3) [] ∷
    int (head.Declared 4) [] ∷
    bool head.Equal (a ∷ b ∷ []) ∷
    bool head.Equal (b ∷ c ∷ []) ∷
    bool head.Equal (a ∷ c ∷ []) ∷
    bool head.Equal (b ∷ a ∷ []) ∷
    int (head.Declared 5) (a ∷ []) ∷
    int (head.Declared 5) (b ∷ []) ∷
    bool head.Equal (f_a ∷ f_b ∷ []) ∷
    int (head.Numeral 0) [] ∷
    bool head.Le (a ∷ nought ∷ []) ∷
    int (head.Numeral 1) [] ∷
    int (head.Numeral 4) [] ∷
    int head.Times (four ∷ a ∷ []) ∷
    int head.Plus (one ∷ four_a ∷ []) ∷
    bool head.Le (one_and_four_a ∷ one ∷ []) ∷
    bool head.Lt (a ∷ one ∷ []) ∷
    bool head.Lt (one ∷ a ∷ []) ∷
    []

-- A term as a literal, and its complement.
abbrev pub yes : ℕ → Literal
yes n = record { negative = false; term = n }

abbrev pub not : ℕ → Literal
not n = record { negative = true; term = n }

-- A question over these terms.
abbrev pub ask : List ℕ → List Literal → List (List Literal) → List ℤ → Asked
ask rule clause premises args = record { terms = terms; rule = rule; clause = clause; premises = premises; args = args }
