-- The words that are known once sorts and names are declared.
use Rattle.entries.specs.declared.entry.Name.{Name}
use Rattle.std.specs.Prelude.{ℕ, Bool, ◌||◌, List, take, is_some, Option, position}
use Rattle.std.specs.Option.{option_map, option_or}
use Rattle.std.specs.Str.{bytes_eq}
use Rattle.entries.specs.declared.entry.Sort.{Sort}
use Rattle.entries.specs.declared.entry.Sort.TheVariants as sort
use Rattle.declarations.specs.Words.{built_in, is_reserved}

-- What a list keeps of a word: its first 64 bytes, which is all of a token's.
abbrev pub kept : List ℕ → List ℕ
kept word = take 64 word

-- The declared sort that a word is, if any, by its place among the sorts.
abbrev pub declared_sort : List (List ℕ) → List ℕ → Option Sort
declared_sort sorts word = option_map sort.Declared (position (λ w. bytes_eq w (kept word)) sorts)

-- The sort that a word is, if any.
abbrev pub sort_named : List (List ℕ) → List ℕ → Option Sort
sort_named sorts word = option_or (built_in word) (declared_sort sorts word)

-- The declared name that a word is, if any, by its place among the names.
abbrev pub name_named : List Name → List ℕ → Option ℕ
name_named names word = position (λ (n : Name). bytes_eq n.word (kept word)) names

-- A word is taken where it is reserved, a sort or a name.
abbrev pub is_taken : List (List ℕ) → List Name → List ℕ → Bool
is_taken sorts names word = is_reserved word || (is_some (sort_named sorts word) || is_some (name_named names word))
