-- What the two sides of a congruence begin with.
use Rattle.std.specs.Prelude.{Bool, not, ◌&&◌, ◌||◌}
use Rattle.entries.specs.declared.entry.Head.{Head}
use Rattle.entries.specs.declared.entry.Head.TheVariants as head
use Rattle.entries.specs.Equality.{same_kind, same_head}

-- A declared name or an operator: neither `true`, nor `false`, nor a numeral.
abbrev pub is_operation : Head → Bool
is_operation h = not (same_kind h head.True || (same_kind h head.False || same_kind h (head.Numeral 0)))

-- Both heads are one declared name.
abbrev pub one_name : Head → Head → Bool
one_name h k = same_kind h (head.Declared 0) && same_head h k

-- Both heads are one declared name or one operator.
abbrev pub one_operation : Head → Head → Bool
one_operation h k = is_operation h && same_head h k
