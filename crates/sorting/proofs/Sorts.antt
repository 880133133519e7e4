-- Tests on the sorts of arguments.
use Rattle.std.proofs.Common.{◌≡◌, ℕ, zero, suc, Bool, true, false, ◌&&◌, eqb, List, [], ◌∷◌, map, length, replicate, sym, refl, ap, ◌∙◌, arith}
use Rattle.std.specs.List.{list_all, zip}
use Rattle.std.proofs.lemmas.List.{length-map}
use Rattle.std.proofs.lemmas.Bool.Decides.{nat_tests}
use Rattle.entries.specs.declared.entry.Sort.{Sort}
use Rattle.entries.specs.Equality.{same_sort}
use Rattle.meaning.specs.Sorts.{all, same_sorts}

swapped : (x y z : Bool) → (x && (y && z)) ≡ (y && (x && z))
swapped true y z = refl
swapped false true z = refl
swapped false false z = refl

eqb_suc : (m n : ℕ) → eqb m n ≡ eqb (suc m) (suc n)
eqb_suc m n = grind (arith, nat_tests)

-- so many of one sort
replicated : (n : ℕ) (s : Sort) (ss : List Sort) → same_sorts ss (replicate n s) ≡ (eqb (length ss) n && all s ss)
replicated zero s [] = refl
replicated zero s (a ∷ ss) = grind (arith, nat_tests)
replicated (suc n) s [] = grind (arith, nat_tests)
replicated (suc n) s (a ∷ ss) =
    ap (λ v. same_sort a s && v) (replicated n s ss) ∙ swapped (same_sort a s) (eqb (length ss) n) (all s ss) ∙ ap (λ v. v && (same_sort a s && all s ss)) (eqb_suc (length ss) n)

-- a test of two numbers, and a second test
pub second_yes : (m n : ℕ) (r w : Bool) → m ≡ n → w ≡ (eqb m n && r) → r ≡ w
second_yes m n r w e is = let t : eqb m n ≡ true = grind (arith, nat_tests) in sym (is ∙ ap (λ v. v && r) t)

pub second_no : (m n : ℕ) (r w : Bool) → (m ≡ n → ⊥) → w ≡ (eqb m n && r) → eqb m n ≡ w
second_no m n r w ne is = let t : eqb m n ≡ false = grind (arith, nat_tests) in t ∙ sym (is ∙ ap (λ v. v && r) t)

one_by_one : (f : ℕ → Sort) (ns : List ℕ) (ss : List Sort) → same_sorts (map f ns) ss ≡ (eqb (length ns) (length ss) && list_all (λ (p : ℕ × Sort). same_sort (f p.0) p.1) (zip ns ss))
one_by_one f [] [] = refl
one_by_one f [] (s ∷ ss) = grind (arith, nat_tests)
one_by_one f (n ∷ ns) [] = grind (arith, nat_tests)
one_by_one f (n ∷ ns) (s ∷ ss) =
    let rest = list_all (λ (p : ℕ × Sort). same_sort (f p.0) p.1) (zip ns ss) in
    ap (λ v. same_sort (f n) s && v) (one_by_one f ns ss) ∙ swapped (same_sort (f n) s) (eqb (length ns) (length ss)) rest ∙ ap (λ v. v && (same_sort (f n) s && rest)) (eqb_suc (length ns) (length ss))

-- the sorts of arguments
module _ (f : ℕ → Sort) (ns : List ℕ) (sorts : List Sort) (view : map f ns ≡ sorts) where
  pub exact : (n : ℕ) (s : Sort) → same_sorts sorts (replicate n s) ≡ (eqb (length ns) n && all s sorts)
  exact n s = replicated n s sorts ∙ ap (λ k. eqb k n && all s sorts) (sym (ap length view) ∙ length-map ns f)

  pub agreed : (ss : List Sort) → same_sorts sorts ss ≡ (eqb (length ns) (length ss) && list_all (λ (p : ℕ × Sort). same_sort (f p.0) p.1) (zip ns ss))
  agreed ss = ap (λ v. same_sorts v ss) (sym view) ∙ one_by_one f ns ss
