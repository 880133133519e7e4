-- Words and names are looked for by their bytes.
use Rattle.std.proofs.Common.{◌≡◌, ℕ, List, Option, position}
use Rattle.std.specs.Str.{bytes_eq}
use Rattle.std.proofs.lemmas.Slice.Eq.{bytes_eq-Decides}
use Rattle.entries.specs.declared.entry.Name.{Name}
use Rattle.entries.specs.First.{First}
use Rattle.entries.proofs.Firsts.{first_place_lem}

pub word_place : (words : List (List ℕ)) (word : List ℕ) (r : Option ℕ) → First (λ x. x ≡ word) words r →
    r ≡ position (λ w. bytes_eq w word) words
word_place words word r h = first_place_lem (λ x. x ≡ word) (λ x. bytes_eq x word) (λ x. bytes_eq-Decides x word) words r h

pub name_place : (names : List Name) (word : List ℕ) (r : Option ℕ) → First (λ (x : Name). x.word ≡ word) names r →
    r ≡ position (λ (n : Name). bytes_eq n.word word) names
name_place names word r h =
    first_place_lem (λ (x : Name). x.word ≡ word) (λ (x : Name). bytes_eq x.word word) (λ (x : Name). bytes_eq-Decides x.word word) names r h
