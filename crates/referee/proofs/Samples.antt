-- The terms that worked cases are about are proper, by one computed test.
use Rattle.std.proofs.Common.{◌≡◌, ℕ, ◌<◌, Bool, true, ◌&&◌, ltb, leb, List, [], ◌∷◌, ◌++◌, length, sym, refl, subst}
use Rattle.std.specs.List.{AllByRecursion, list_all}
use Rattle.std.proofs.lemmas.List.{append_assoc, append-nil}
use Rattle.std.proofs.lemmas.Bool.{and_parts, ltb-true, leb-true}
use Rattle.entries.specs.declared.entry.Name.{Name}
use Rattle.entries.specs.declared.entry.Term.{Term}
use Rattle.entries.specs.Equality.{same_sort}
use Rattle.entries.proofs.Alike.{same_sort_decides}
use Rattle.meaning.specs.Proper.{Proper, ProperAt, well_formed}
use Rattle.meaning.specs.Sorts.{gives_sort}
use Rattle.meaning.proofs.Propers.{proper_none, proper_push}
use Rattle.referee.specs.Samples as sample

-- whether a term may come next in a list
abbrev fits : List Name → List Term → Term → Bool
fits names done t =
    list_all (λ n. ltb n (length done)) t.args
    && (leb (length t.args) 64 && (well_formed names done t.head t.args && same_sort t.sort (gives_sort names t.head)))

abbrev fit_all : List Name → List Term → List Term → Bool
fit_all names done [] = true
fit_all names done (t ∷ ts) = fits names done t && fit_all names (done ++ t ∷ []) ts

below : (k : ℕ) (ns : List ℕ) → list_all (λ n. ltb n k) ns ≡ true → AllByRecursion (λ n. n < k) ns
below k [] e = tt
below k (n ∷ ns) e = let both = and_parts (ltb n k) _ e in (ltb-true n k both.0, below k ns both.1)

fits_proper : (names : List Name) (done : List Term) (t : Term) → fits names done t ≡ true → ProperAt names done (length done) t
fits_proper names done t e =
    let one = and_parts (list_all (λ n. ltb n (length done)) t.args) _ e in
    let two = and_parts (leb (length t.args) 64) _ one.1 in
    let three = and_parts (well_formed names done t.head t.args) _ two.1 in
    record {
      before = below (length done) t.args one.0;
      few = leb-true _ 64 two.0;
      formed = three.0;
      given = (same_sort_decides t.sort (gives_sort names t.head)).0 three.1;
    }

all_proper : (names : List Name) (done rest : List Term) → Proper names done → fit_all names done rest ≡ true → Proper names (done ++ rest)
all_proper names done [] ok e = subst (Proper names) (sym (append-nil done)) ok
all_proper names done (t ∷ ts) ok e =
    let both = and_parts (fits names done t) _ e in
    subst (Proper names) (append_assoc done (t ∷ []) ts)
    (all_proper names (done ++ t ∷ []) ts (proper_push names done t ok (fits_proper names done t both.0)) both.1)

pub samples_proper : Proper sample.names sample.terms
samples_proper = all_proper sample.names [] sample.terms (proper_none sample.names) refl
