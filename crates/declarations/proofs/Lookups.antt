-- What a search among declared words answers.
use Rattle.std.proofs.Common.{◌≡◌, ℕ, List, length, take, position, Option, sym, ap, ◌∙◌, arith}
use Rattle.std.specs.Option.{option_map}
use Rattle.std.specs.Str.{bytes_eq}
use Rattle.std.proofs.lemmas.List.{take_all}
use Rattle.entries.specs.declared.entry.Name.{Name}
use Rattle.entries.specs.declared.entry.Sort.TheVariants as sort
use Rattle.entries.specs.First.{First}
use Rattle.entries.proofs.Lookups.{word_place, name_place}
use Rattle.declarations.specs.Known.{kept, declared_sort, name_named}

-- the whole list was searched for the word s, with the answer o
module _ (word s : List ℕ) (is : s ≡ kept word) (r o : Option ℕ) (answer : r ≡ o) where
  pub sort_found : (sorts : List (List ℕ)) → First (λ x. x ≡ s) (take (length sorts) sorts) r → option_map sort.Declared o ≡ declared_sort sorts word
  sort_found sorts h =
      let whole : take (length sorts) sorts ≡ sorts = take_all (length sorts) sorts (omega arith) in
      let found : o ≡ position (λ w. bytes_eq w (kept word)) sorts =
      sym answer ∙ word_place (take (length sorts) sorts) s r h ∙ (λ i. position (λ w. bytes_eq w (is i)) (whole i)) in
      ap (option_map sort.Declared) found

  pub name_found : (names : List Name) → First (λ (x : Name). x.word ≡ s) (take (length names) names) r → o ≡ name_named names word
  name_found names h =
      let whole : take (length names) names ≡ names = take_all (length names) names (omega arith) in
      sym answer ∙ name_place (take (length names) names) s r h ∙ (λ i. position (λ (n : Name). bytes_eq n.word (is i)) (whole i))
