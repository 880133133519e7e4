-- The pieces of a file: its commands, and whatever else stands outside brackets.
use Rattle.std.specs.Prelude.{ℕ, suc, ◌+◌, ◌-◌, Bool, true, false, cond, not, ◌||◌, List, [], ◌∷◌, ◌==◌}
use Rattle.std.specs.List.{prefix_len}
use Rattle.text.specs.Bytes.{is_blank, is_semicolon, ends_line, kind}
use Rattle.text.specs.Parts.{Part, Reach, parts_from}
use Rattle.text.specs.declared.bytes.Kind.{Kind}
use Rattle.text.specs.declared.bytes.Kind.TheVariants.{Blank, Comment, Open, Close, Colon, Digit, Initial, Other}

-- A bare word goes on over bytes that are neither blank, bracket nor semicolon.
abbrev pub is_bare : ℕ → Bool
is_bare b = not (is_blank b || (is_semicolon b || (b == 40 || b == 41)))

-- Whether a comment goes on behind a byte: a line's end ends it, and a semicolon begins one.
abbrev pub comment_behind : Bool → ℕ → Bool
comment_behind comment b = cond (ends_line b) false (cond (is_semicolon b) true comment)

-- How many brackets are open behind a byte; those in comments do not count.
abbrev pub depth_behind : ℕ → Bool → ℕ → ℕ
depth_behind depth comment b = cond comment depth (cond (b == 40) (depth + 1) (cond (b == 41) (depth - 1) depth))

-- How many bytes there are until no bracket is open, or in all where one stays open.
unfoldable pub closing : ℕ → Bool → List ℕ → ℕ
closing depth comment [] = 0
closing depth comment (b ∷ bs) =
    cond (depth == 0) 0 (suc (closing (depth_behind depth comment b) (comment_behind comment b) bs))

-- How many bytes there are behind an opening bracket, up to and with the bracket that closes it.
abbrev pub enclosed : List ℕ → ℕ
enclosed bs = closing 1 false bs

-- An opening bracket's piece ends behind the bracket that closes it, a closing bracket stands alone, and any other byte begins a bare word.
abbrev pub reaches : Kind → List ℕ → ℕ
reaches Blank bs = 0
reaches Comment bs = 0
reaches Open bs = enclosed bs
reaches Close bs = 0
reaches Colon bs = prefix_len is_bare bs
reaches Digit bs = prefix_len is_bare bs
reaches Initial bs = prefix_len is_bare bs
reaches Other bs = prefix_len is_bare bs

abbrev pub piece : Reach
piece b bs = reaches (kind b) bs

-- The pieces of a text.
abbrev pub pieces : List ℕ → List Part
pieces text = parts_from piece text 0
