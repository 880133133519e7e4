-- The classes of bytes.
use Rattle.std.specs.Prelude.{ℕ, Bool, cond, not, ◌||◌, List, [], ◌∷◌, codes, ◌==◌}
use Rattle.std.specs.List.{list_any}
use Rattle.std.specs.Char.{is_ascii_digit, is_ascii_alphabetic}
use Rattle.text.specs.declared.bytes.Kind.{Kind}
use Rattle.text.specs.declared.bytes.Kind.TheVariants.{Blank, Comment, Open, Close, Colon, Digit, Initial, Other}

abbrev pub among : List ℕ → ℕ → Bool
among xs b = list_any (λ x. x == b) xs

-- A name byte is a letter, a digit or one of seventeen marks.
abbrev pub is_name : ℕ → Bool
is_name b = is_ascii_alphabetic b || (is_ascii_digit b || among (codes "~!@$%^&*_-+=<>.?/") b)

-- A line ends at a line feed or a carriage return.
abbrev pub ends_line : ℕ → Bool
ends_line b = among (10 ∷ 13 ∷ []) b

-- Space, tab and the line ends are blank.
abbrev pub is_blank : ℕ → Bool
is_blank b = among (32 ∷ 9 ∷ 10 ∷ 13 ∷ []) b

-- A semicolon begins a comment, which takes the rest of its line.
abbrev pub is_semicolon : ℕ → Bool
is_semicolon b = b == 59

abbrev pub in_line : ℕ → Bool
in_line b = not (ends_line b)

-- What a byte outside comments can begin.
abbrev pub kind : ℕ → Kind
kind b =
    cond (is_blank b) Blank
    (cond (is_semicolon b) Comment
    (cond (b == 40) Open (cond (b == 41) Close (cond (b == 58) Colon (cond (is_ascii_digit b) Digit (cond (is_name b) Initial Other))))))
