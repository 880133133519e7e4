-- Clauses without repeats: how long they are, and where they are true.
use Rattle.std.proofs.Common.{◌≡◌, ℕ, zero, suc, ◌+◌, ◌<◌, ◌≤◌, Bool, true, false, ◌||◌, List, [], ◌∷◌, ◌++◌, map, length, get_or, take, fold, sym, refl, ap, ◌∙◌, subst, inl, inr, ⊎_elim, arith}
use Rattle.std.specs.List.{AllByRecursion, list_any}
use Rattle.std.proofs.ByRecursion.{All-map, All-push, All-weaker}
use Rattle.std.proofs.lemmas.List.{length_push, get_or_append_left, get_or_push, get_or_default, take_more, take_all, map_push}
use Rattle.std.proofs.lemmas.Bool.{cases_Bool, cond-true, cond-false, or_left, or_right, cases_lt, false≢true}
use Rattle.entries.specs.declared.entry.Literal.{Literal}
use Rattle.entries.specs.declared.entry.Name.{Name}
use Rattle.entries.specs.Clauses.{holds_literal, with as with_one, clause_from}
use Rattle.entries.specs.Equality.{same_literal}
use Rattle.entries.specs.declared.entry.Term.{Term}
use Rattle.entries.proofs.Filings.{holds_decides}
use Rattle.meaning.specs.Laws.{ClausesWritten}
use Rattle.meaning.specs.Proper.{Proper, Formed}
use Rattle.meaning.specs.Truth.{literal_of, literal_true, clause_true}
use Rattle.meaning.specs.Values.{Reading, is_true}
use Rattle.meaning.proofs.Literals.{literal_true_lem, literal_true_kept, literal_within}
use Rattle.meaning.proofs.Values.{some_map}

or_assoc : (a b c : Bool) → ((a || b) || c) ≡ (a || (b || c))
or_assoc true b c = refl
or_assoc false b c = refl

or_false : (a : Bool) → (a || false) ≡ a
or_false true = refl
or_false false = refl

pub some_append : {X : Type 0} (p : X → Bool) (xs ys : List X) → list_any p (xs ++ ys) ≡ (list_any p xs || list_any p ys)
some_append p [] ys = refl
some_append p (x ∷ xs) ys = ap (λ b. p x || b) (some_append p xs ys) ∙ sym (or_assoc (p x) (list_any p xs) (list_any p ys))

pub some_at : {X : Type 0} (p : X → Bool) (xs : List X) (k : ℕ) (d : X) → k < length xs → p (get_or xs k d) ≡ true → list_any p xs ≡ true
some_at p [] k d h e = absurd (omega arith)
some_at p (x ∷ xs) zero d h e = or_left (p x) (list_any p xs) e
some_at p (x ∷ xs) (suc k) d h e = or_right (p x) (list_any p xs) (some_at p xs k d (omega arith) e)

-- what tests alike on each element is alike on the list
pub some_same : {X : Type 0} (p q : X → Bool) (P : X → Type 0) → ((x : X) → P x → p x ≡ q x) → (xs : List X) → AllByRecursion P xs → list_any p xs ≡ list_any q xs
some_same p q P e [] w = refl
some_same p q P e (x ∷ xs) w = ap (λ b. b || list_any p xs) (e x w.0) ∙ ap (λ b. q x || b) (some_same p q P e xs w.1)

-- a repeat adds nothing
some_with : (p : Literal → Bool) (c : List Literal) (l : Literal) → list_any p (with_one c l) ≡ (list_any p c || p l)
some_with p c l = elim (cases_Bool (holds_literal c l)) [
  | inl e ↦
      let w = (holds_decides c l).0 e in
      ap (list_any p) (cond-true (holds_literal c l) _ _ e) ∙ (elim (cases_Bool (p l)) [
        | inl t ↦
            let s = some_at p c w.0 l w.1 (ap p (w.2 l) ∙ t) in
            s ∙ sym (or_right (list_any p c) (p l) t)
        | inr f ↦ sym (ap (λ b. list_any p c || b) f ∙ or_false (list_any p c))
      ])
  | inr e ↦ ap (list_any p) (cond-false (holds_literal c l) _ _ e) ∙ some_append p c (l ∷ []) ∙ ap (λ b. list_any p c || b) (or_false (p l))
]

some_from : (p : Literal → Bool) (ls c : List Literal) → list_any p (fold with_one c ls) ≡ (list_any p c || list_any p ls)
some_from p [] c = sym (or_false (list_any p c))
some_from p (l ∷ ls) c = some_from p ls (with_one c l) ∙ ap (λ b. b || list_any p ls) (some_with p c l) ∙ or_assoc (list_any p c) (p l) (list_any p ls)

-- a clause has some literal exactly where it was written
pub some_clause : (p : Literal → Bool) (ls : List Literal) → list_any p (clause_from ls) ≡ list_any p ls
some_clause p ls = some_from p ls []

-- the clause of written terms is true exactly where one of them is
pub clause_true_lem : (ρ : Reading) (names : List Name) (terms : List Term) → Proper names terms → (ns : List ℕ) → AllByRecursion (λ n. n < length terms) ns →
    clause_true ρ terms (clause_from (map (literal_of terms) ns)) ≡ list_any (is_true ρ terms) ns
clause_true_lem ρ names terms ok ns w =
    some_clause (literal_true ρ terms) (map (literal_of terms) ns) ∙ some_map (literal_of terms) (literal_true ρ terms) ns
    ∙ some_same (λ n. literal_true ρ terms (literal_of terms n)) (is_true ρ terms) (λ n. n < length terms) (literal_true_lem ρ names terms ok) ns w

-- more terms change no clause's truth
pub clause_true_kept : (ρ : Reading) (terms more : List Term) (c : List Literal) → AllByRecursion (λ (l : Literal). l.term < length terms) c →
    clause_true ρ (terms ++ more) c ≡ clause_true ρ terms c
clause_true_kept ρ terms more c w =
    some_same (literal_true ρ (terms ++ more)) (literal_true ρ terms) (λ (l : Literal). l.term < length terms) (literal_true_kept ρ terms more) c w

-- ---- one more literal
pub length_with : (c : List Literal) (l : Literal) → length (with_one c l) ≤ length c + 1
length_with c l = elim (cases_Bool (holds_literal c l)) [
  | inl e ↦ omega (arith, ap length (cond-true (holds_literal c l) c (c ++ l ∷ []) e))
  | inr e ↦ omega (arith, ap length (cond-false (holds_literal c l) c (c ++ l ∷ []) e), length_push c l)
]

pub all_with : (P : Literal → Type 0) (c : List Literal) (l : Literal) → AllByRecursion P c → P l → AllByRecursion P (with_one c l)
all_with P c l w h = elim (cases_Bool (holds_literal c l)) [
  | inl e ↦ subst (AllByRecursion P) (sym (cond-true (holds_literal c l) c (c ++ l ∷ []) e)) w
  | inr e ↦ subst (AllByRecursion P) (sym (cond-false (holds_literal c l) c (c ++ l ∷ []) e)) (All-push P c l w h)
]

all_from : (P : Literal → Type 0) (ls c : List Literal) → AllByRecursion P c → AllByRecursion P ls → AllByRecursion P (fold with_one c ls)
all_from P [] c w v = w
all_from P (l ∷ ls) c w v = all_from P ls (with_one c l) (all_with P c l w v.0) v.1

pub all_clause : (P : Literal → Type 0) (ls : List Literal) → AllByRecursion P ls → AllByRecursion P (clause_from ls)
all_clause P ls v = all_from P ls [] tt v

folded_push : (ls : List Literal) (l : Literal) (c : List Literal) → fold with_one c (ls ++ l ∷ []) ≡ with_one (fold with_one c ls) l
folded_push [] l c = refl
folded_push (m ∷ ls) l c = folded_push ls l (with_one c m)

-- ---- a loop over written terms
module _ (f : ℕ → Literal) (ns : List ℕ) where
  pub written_more : (i : ℕ) → i < length ns → (c d : List Literal) (l : Literal) → length c ≤ i → c ≡ clause_from (map f (take i ns)) →
      l ≡ f (get_or ns i 0) → d ≡ with_one c l → (length d ≤ i + 1) × (d ≡ clause_from (map f (take (i + 1) ns)))
  written_more i lt c d l few so_far is next =
      let long = length_with c l in
      let e : map f (take (i + 1) ns) ≡ map f (take i ns) ++ f (get_or ns i 0) ∷ [] = ap (map f) (take_more ns i 0 lt) ∙ map_push f (take i ns) (get_or ns i 0) in
      let p : clause_from (map f (take (i + 1) ns)) ≡ with_one (clause_from (map f (take i ns))) (f (get_or ns i 0)) =
      ap clause_from e ∙ folded_push (map f (take i ns)) (f (get_or ns i 0)) [] in
      (omega (arith, ap length next), next ∙ ap (λ z. with_one z l) so_far ∙ ap (with_one (clause_from (map f (take i ns)))) is ∙ sym p)

  pub written_all : (i : ℕ) → length ns ≤ i → (c : List Literal) → c ≡ clause_from (map f (take i ns)) → c ≡ clause_from (map f ns)
  written_all i le c e = e ∙ ap (λ z. clause_from (map f z)) (take_all i ns le)

pub clause_truth_of : (ts : List Term) (ns : List ℕ) (c : List Literal) → Formed ts → AllByRecursion (λ n. n < length ts) ns → c ≡ clause_from (map (literal_of ts) ns) → (ρ : Reading) →
    clause_true ρ ts c ≡ list_any (is_true ρ ts) ns
clause_truth_of ts ns c formed w e ρ = ap (clause_true ρ ts) e ∙ clause_true_lem ρ formed.0 ts formed.1 ns w

pub clause_within : (ts : List Term) (ns : List ℕ) (c : List Literal) → Formed ts → AllByRecursion (λ n. n < length ts) ns → c ≡ clause_from (map (literal_of ts) ns) →
    AllByRecursion (λ (l : Literal). l.term < length ts) c
clause_within ts ns c formed w e =
    let f = literal_of ts in
    subst (AllByRecursion (λ (l : Literal). l.term < length ts)) (sym e)
    (all_clause (λ (l : Literal). l.term < length ts) (map f ns)
    (All-map (λ (l : Literal). l.term < length ts) f ns
    (All-weaker (λ n. n < length ts) (λ n. (f n).term < length ts) (λ n h. omega (arith, literal_within formed.0 ts formed.1 n h)) ns w)))

-- ---- a clause has the literals that were written, each of them once
abbrev Once : List Literal → Type 0
Once c = (i j : ℕ) (d : Literal) → i < j → j < length c → get_or c i d ≡ get_or c j d → ⊥

once_push : (c : List Literal) (l : Literal) → holds_literal c l ≡ false → Once c → Once (c ++ l ∷ [])
once_push c l new once i j d lt h e =
    let k = length_push c l in
    let b : i < length c = omega arith in
    let a = get_or_append_left c (l ∷ []) d i b in
    ⊎_elim
    (λ (g : j < length c). once i j d lt g (sym a ∙ e ∙ get_or_append_left c (l ∷ []) d j g))
    (λ (g : length c ≤ j).
    let at_end : length c ≡ j = omega arith in
    let is : get_or c i d ≡ l = sym a ∙ e ∙ get_or_push c l d j at_end in
    false≢true (sym new ∙ (holds_decides c l).1 (i, b, λ f. get_or_default c i f d b ∙ is)))
    (cases_lt j (length c))

once_with : (c : List Literal) (l : Literal) → Once c → Once (with_one c l)
once_with c l once = elim (cases_Bool (holds_literal c l)) [
  | inl e ↦ subst Once (sym (cond-true (holds_literal c l) c (c ++ l ∷ []) e)) once
  | inr e ↦ subst Once (sym (cond-false (holds_literal c l) c (c ++ l ∷ []) e)) (once_push c l e once)
]

once_from : (ls c : List Literal) → Once c → Once (fold with_one c ls)
once_from [] c once = once
once_from (l ∷ ls) c once = once_from ls (with_one c l) (once_with c l once)

pub clauses_written : ClausesWritten
clauses_written ls = record {
  same = λ l. some_clause (λ m. same_literal m l) ls;
  once = once_from ls [] (λ i j d lt h e. omega arith);
}
