-- One term more in the list, or the same list.
use Rattle.std.proofs.Common.{◌≡◌, ℕ, ◌<◌, ◌≤◌, Bool, true, false, cond, not, ◌&&◌, ◌||◌, List, [], ◌∷◌, ◌++◌, length, take, Some, None, Ok, Err, Option, Result, sym, refl, ap, ◌∙◌, subst, ⊎_elim, arith}
use Rattle.std.specs.List.{AllByRecursion}
use Rattle.std.specs.Option.{ok_or}
use Rattle.std.proofs.lemmas.List.{length-take-le, take-take, take_all, take-append-le, length-append, append-nil}
use Rattle.entries.specs.declared.entry.Head.{Head}
use Rattle.entries.specs.declared.entry.Name.{Name}
use Rattle.entries.specs.declared.entry.Sort.{Sort}
use Rattle.entries.specs.declared.entry.Sort.TheVariants as sort
use Rattle.entries.specs.declared.entry.Term.{Term}
use Rattle.entries.specs.Equality.{same_sort}
use Rattle.entries.specs.Filing.{room, file}
use Rattle.entries.proofs.Filings.{file_cases}
use Rattle.meaning.specs.Proper.{Proper, ProperAt, well_formed}
use Rattle.meaning.specs.Sorts.{gives_sort}
use Rattle.meaning.proofs.Propers.{proper_filed}
use Rattle.declarations.specs.declared.fault.TermFault.{TermFault}
use Rattle.declarations.specs.declared.fault.TermFault.TheVariants.{Misfit, Full}
use Rattle.terms.specs.Reads.{fails, fitting, filed_as, made}
use Rattle.terms.specs.State.{Ready, Grown, Does}

both_true : (x y : Bool) → x ≡ true → y ≡ true → (x && y) ≡ true
both_true x y e f = ap (λ b. b && y) e ∙ f

first_true : (x y : Bool) → (x && y) ≡ true → x ≡ true
first_true true y e = refl
first_true false y e = e

module _ (names : List Name) (memory : List Term) (n : ℕ) (wants : Bool) (at : ℕ) (k : Head) (args : List ℕ) where
  abbrev ts : List Term
  ts = take n memory

  pub fitted : (standing : List Term) → standing ≡ ts → (r q : Bool) (s : Sort) → r ≡ well_formed names standing k args → r ≡ true → s ≡ gives_sort names k → q ≡ (not wants || same_sort s sort.Bool) → q ≡ true → fitting names wants ts k args ≡ true
  fitted standing all r q s e good es eq suited =
      both_true (well_formed names ts k args) (not wants || same_sort (gives_sort names k) sort.Bool) (ap (λ l. well_formed names l k args) (sym all) ∙ sym e ∙ good) (ap (λ z. not wants || same_sort z sort.Bool) (sym es) ∙ sym eq ∙ suited)

  -- the term that is filed
  abbrev entry : Term
  entry = record { head = k; sort = gives_sort names k; args = args }

  pub same_entry : (t : Term) (s : Sort) → s ≡ gives_sort names k → length args ≤ 64 → t ≡ record { head = k; sort = s; args = take 64 args } → t ≡ entry
  same_entry t s es few e = e ∙ (λ j. record { head = k; sort = es j; args = take_all 64 args few j })

  module _ (most : ℕ) (t : Term) (is : t ≡ entry) (after : List Term) (fit : fitting names wants ts k args ≡ true) where
    placed : (r : Result ℕ TermFault) → Does (filed_as at (file most ts t)) r after → Does (made names most wants at k args ts) r after
    placed r d =
        subst (λ b. Does (cond b (filed_as at (file most ts entry)) (fails (Misfit at))) r after) (sym fit) (subst (λ u. Does (filed_as at (file most ts u)) r after) is d)

    pub filed : (o : Option ℕ) → (o, after) ≡ file most ts t → Does (made names most wants at k args ts) (ok_or o (Full at)) after
    filed (Some m) e = placed (Ok m) (subst (λ q. Does (filed_as at q) (Ok m) after) e (refl, refl))
    filed None e = placed (Err (Full at)) (subst (λ q. Does (filed_as at q) (Err (Full at)) after) e refl)

  -- the list stays ready, and grows at its end
  module _ (h : Ready names memory n) (below : AllByRecursion (λ m. m < n) args) (few : length args ≤ 64) (fit : fitting names wants ts k args ≡ true) (most : ℕ) (t : Term) (is : t ≡ entry) (r : Option ℕ) (memory' : List Term) (n' : ℕ) (fits : n' ≤ room 4096 memory') (e : (r, take n' memory') ≡ file most ts t) where
    long : length ts ≡ n
    long = length-take-le n memory (omega (arith, h.few))

    standing : ProperAt names ts (length ts) entry
    standing = record {
      before = subst (λ m. AllByRecursion (λ j. j < m) args) (sym long) below;
      few = few;
      formed = first_true (well_formed names ts k args) (not wants || same_sort (gives_sort names k) sort.Bool) fit;
      given = refl;
    }

    after_is : take n' memory' ≡ (file most ts entry).1
    after_is = ap (λ (p : Option ℕ × List Term). p.1) e ∙ ap (λ u. (file most ts u).1) is

    pub filed_ready : Ready names memory' n'
    filed_ready = record { few = fits; proper = subst (Proper names) (sym after_is) (proper_filed names most ts entry h.proper standing) }

    pub filed_grown : Grown memory n memory' n'
    filed_grown = ⊎_elim (λ same. grown [] (after_is ∙ same ∙ sym (append-nil ts))) (λ one. grown (entry ∷ []) (after_is ∙ one)) (file_cases most ts entry)
      where
        grown : (more : List Term) → take n' memory' ≡ ts ++ more → Grown memory n memory' n'
        grown more same =
            let new : length (take n' memory') ≡ n' = length-take-le n' memory' (omega (arith, fits)) in
            let le : n ≤ n' = omega (arith, long, ap length same, length-append ts more) in
            record {
              more = le;
              kept = sym (take-take n n' memory' le) ∙ ap (take n) same ∙ take-append-le n ts more (omega (arith, long)) ∙ take_all n ts (omega (arith, long));
            }
