-- The situations of each connective: whether T is true, and what is then known of its arguments.
use Rattle.std.specs.Prelude.{◌≡◌, ℕ, ◌<◌, Bool, true, false, cond, not, ◌||◌, ◌⊎◌, List, [], ◌∷◌, length, take, drop, ℤ, pos, slice_index, refl}
use Rattle.std.proofs.Common.{inl, inr, sym, ap, ◌∙◌, subst, arith}
use Rattle.std.specs.List.{AllByRecursion, list_any, list_all}
use Rattle.std.proofs.ByRecursion.{All-get_or}
use Rattle.std.proofs.lemmas.List.{drop_more}
use Rattle.std.proofs.lemmas.Bool.{cases_Bool, and_parts, false≢true}
use Rattle.entries.specs.declared.entry.Head.TheVariants as head
use Rattle.entries.specs.declared.entry.Name.{Name}
use Rattle.entries.specs.declared.entry.Sort.TheVariants as sort
use Rattle.entries.specs.declared.entry.Term.{Term}
use Rattle.entries.specs.Equality.{same_sort}
use Rattle.entries.proofs.Alike.{head_of_kind, same_sort_decides}
use Rattle.meaning.specs.Proper.{Proper, term_at, sort_at}
use Rattle.meaning.specs.Truth.{signed}
use Rattle.meaning.specs.Values.{Reading, Fits, Bit, same_value, holds, value_of, is_true}
use Rattle.meaning.proofs.Clauses.{some_at}
use Rattle.meaning.proofs.Values.{value_by, bool_bits, implies_args, equal_args, and_true, or_true, implies_true, equal_true}
use Rattle.referee.proofs.Scans.{some_where, every_not, every_all, some_none_all}
use Rattle.connectives.specs.declared.table.Connective.{Connective}
use Rattle.connectives.specs.declared.table.Connective.TheVariants as connective
use Rattle.connectives.specs.declared.table.Part.{Part}
use Rattle.connectives.specs.declared.table.Part.TheVariants as part
use Rattle.connectives.specs.Rules.{stands_for, begins, connects, is_picked}

-- what is known of the arguments: nothing, the truth of each, of one of them, of the two that there are
pub data Known : Type 0 where
  nothing : Known
  each : Bool → Known
  any : Bool → Known
  two : Bool → Bool → Known

pub record Situation : Type 0 where
  pub whole : Bool
  pub known : Known

abbrev where_whole : Bool → Known → Situation
where_whole w k = record { whole = w; known = k }

abbrev pub situations : Connective → List Situation
situations connective.Any = where_whole true nothing ∷ where_whole false nothing ∷ []
situations connective.True = where_whole true nothing ∷ []
situations connective.False = where_whole false nothing ∷ []
situations connective.And = where_whole true (each true) ∷ where_whole false (any false) ∷ []
situations connective.Or = where_whole true (any true) ∷ where_whole false (each false) ∷ []
situations connective.Implies =
    where_whole true (two true true) ∷ where_whole false (two true false) ∷ where_whole true (two false true) ∷ where_whole true (two false false) ∷ []
situations connective.Equiv =
    where_whole true (two true true) ∷ where_whole false (two true false) ∷ where_whole false (two false true) ∷ where_whole true (two false false) ∷ []

-- what it says of truths `v` and arguments `ns`
abbrev KnownTrue : (ℕ → Bool) → List ℕ → Known → Type 0
KnownTrue v ns nothing = Unit {0}
KnownTrue v ns (each b) = AllByRecursion (λ n. v n ≡ b) ns
KnownTrue v ns (any b) = (k : ℕ) × (k < length ns) × (v (slice_index ns k) ≡ b)
KnownTrue v ns (two x y) = (m n : ℕ) × (ns ≡ m ∷ n ∷ []) × (v m ≡ x) × (v n ≡ y)

pub record Obtains (v : ℕ → Bool) (t : ℕ) (ns : List ℕ) (c : Situation) : Type 0 where
  pub whole_is : v t ≡ c.whole
  pub known_is : KnownTrue v ns c.known

abbrev pub Arises : (ℕ → Bool) → ℕ → List ℕ → List Situation → Type 0
Arises v t ns [] = ⊥
Arises v t ns (c ∷ cs) = Obtains v t ns c ⊎ Arises v t ns cs

-- ---- what a situation makes sure of: a letter stands for some term that is true, under a sign
abbrev each_sure : Bool → Known → Bool
each_sure s nothing = false
each_sure s (each b) = signed s b
each_sure s (any b) = false
each_sure s (two x y) = false

abbrev any_sure : Bool → Known → Bool
any_sure s nothing = false
any_sure s (each b) = false
any_sure s (any b) = signed s b
any_sure s (two x y) = false

abbrev first_sure : Bool → Known → Bool
first_sure s nothing = false
first_sure s (each b) = false
first_sure s (any b) = false
first_sure s (two x y) = signed s x

abbrev second_sure : Bool → Known → Bool
second_sure s nothing = false
second_sure s (each b) = false
second_sure s (any b) = false
second_sure s (two x y) = signed s y

abbrev pub sure : Situation → Part → Bool → Bool
sure c part.Whole s = signed s c.whole
sure c part.Picked s = each_sure s c.known
sure c part.All s = any_sure s c.known
sure c part.First s = first_sure s c.known
sure c part.Second s = second_sure s c.known

module _ (v : ℕ → Bool) (s : Bool) (i : ℕ) where
  pick : (ns : List ℕ) (k : ℕ) → k < length ns → signed s (v (slice_index ns k)) ≡ true → list_any (λ n. signed s (v n)) (take 1 (drop k ns)) ≡ true
  pick ns k h e = ap (λ z. list_any (λ n. signed s (v n)) (take 1 z)) (drop_more ns k 0 h) ∙ ap (λ b. b || false) e

  each_is : (ns : List ℕ) (k : Known) → KnownTrue v ns k → i < length ns → each_sure s k ≡ true → list_any (λ n. signed s (v n)) (take 1 (drop i ns)) ≡ true
  each_is ns nothing w h e = absurd (false≢true e)
  each_is ns (each b) w h e = pick ns i h (ap (signed s) (All-get_or (λ n. v n ≡ b) ns i 0 h w) ∙ e)
  each_is ns (any b) w h e = absurd (false≢true e)
  each_is ns (two x y) w h e = absurd (false≢true e)

  any_is : (ns : List ℕ) (k : Known) → KnownTrue v ns k → any_sure s k ≡ true → list_any (λ n. signed s (v n)) ns ≡ true
  any_is ns nothing w e = absurd (false≢true e)
  any_is ns (each b) w e = absurd (false≢true e)
  any_is ns (any b) w e = some_at (λ n. signed s (v n)) ns w.0 0 w.1 (ap (signed s) w.2 ∙ e)
  any_is ns (two x y) w e = absurd (false≢true e)

  first_is : (ns : List ℕ) (k : Known) → KnownTrue v ns k → first_sure s k ≡ true → list_any (λ n. signed s (v n)) (take 1 ns) ≡ true
  first_is ns nothing w e = absurd (false≢true e)
  first_is ns (each b) w e = absurd (false≢true e)
  first_is ns (any b) w e = absurd (false≢true e)
  first_is ns (two x y) w e = ap (λ z. list_any (λ n. signed s (v n)) (take 1 z)) w.2 ∙ ap (λ b. signed s b || false) w.3 ∙ ap (λ b. b || false) e

  second_is : (ns : List ℕ) (k : Known) → KnownTrue v ns k → second_sure s k ≡ true → list_any (λ n. signed s (v n)) (take 1 (drop 1 ns)) ≡ true
  second_is ns nothing w e = absurd (false≢true e)
  second_is ns (each b) w e = absurd (false≢true e)
  second_is ns (any b) w e = absurd (false≢true e)
  second_is ns (two x y) w e = ap (λ z. list_any (λ n. signed s (v n)) (take 1 (drop 1 z))) w.2 ∙ ap (λ b. signed s b || false) w.4 ∙ ap (λ b. b || false) e

  pub sure_is : (t : ℕ) (ns : List ℕ) (c : Situation) → Obtains v t ns c → (p : Part) → (is_picked p ≡ true → i < length ns) → sure c p s ≡ true →
      list_any (λ n. signed s (v n)) (stands_for p t i ns) ≡ true
  sure_is t ns c o part.Whole h e = ap (λ b. signed s b || false) o.whole_is ∙ ap (λ b. b || false) e
  sure_is t ns c o part.Picked h e = each_is ns c.known o.known_is (h refl) e
  sure_is t ns c o part.All h e = any_is ns c.known o.known_is e
  sure_is t ns c o part.First h e = first_is ns c.known o.known_is e
  sure_is t ns c o part.Second h e = second_is ns c.known o.known_is e

-- ---- a term with a connective is in one of its situations
either_way : (v : ℕ → Bool) (t : ℕ) (ns : List ℕ) → Arises v t ns (situations connective.Any)
either_way v t ns = elim (cases_Bool (v t)) [
  | inl e ↦ inl (record { whole_is = e; known_is = tt })
  | inr e ↦ inr (inl (record { whole_is = e; known_is = tt }))
]

module _ (v : ℕ → Bool) (t : ℕ) (ns : List ℕ) (m n : ℕ) (e : ns ≡ m ∷ n ∷ []) where
  obtains_two : (w x y : Bool) → v t ≡ w → v m ≡ x → v n ≡ y → Obtains v t ns (where_whole w (two x y))
  obtains_two w x y p q r = record { whole_is = p; known_is = (m, n, e, q, r) }

  implies_two : (x y : Bool) → v m ≡ x → v n ≡ y → v t ≡ (not x || y) → Arises v t ns (situations connective.Implies)
  implies_two true true q r p = inl (obtains_two true true true p q r)
  implies_two true false q r p = inr (inl (obtains_two false true false p q r))
  implies_two false true q r p = inr (inr (inl (obtains_two true false true p q r)))
  implies_two false false q r p = inr (inr (inr (inl (obtains_two true false false p q r))))

  equal_two : (x y : Bool) → v m ≡ x → v n ≡ y → v t ≡ cond x y (not y) → Arises v t ns (situations connective.Equiv)
  equal_two true true q r p = inl (obtains_two true true true p q r)
  equal_two true false q r p = inr (inl (obtains_two false true false p q r))
  equal_two false true q r p = inr (inr (inl (obtains_two false false true p q r)))
  equal_two false false q r p = inr (inr (inr (inl (obtains_two true false false p q r))))

-- values that are 0 or 1 are the same where they are true together
bits_alike : (x y : ℤ) → Bit x → Bit y → same_value x y ≡ cond (holds x) (holds y) (not (holds y))
bits_alike x y (inl a) (inl b) =
    subst (λ z. same_value z y ≡ cond (holds z) (holds y) (not (holds y))) (sym a) (subst (λ z. same_value (pos 0) z ≡ cond (holds (pos 0)) (holds z) (not (holds z))) (sym b) refl)
bits_alike x y (inl a) (inr b) =
    subst (λ z. same_value z y ≡ cond (holds z) (holds y) (not (holds y))) (sym a) (subst (λ z. same_value (pos 0) z ≡ cond (holds (pos 0)) (holds z) (not (holds z))) (sym b) refl)
bits_alike x y (inr a) (inl b) =
    subst (λ z. same_value z y ≡ cond (holds z) (holds y) (not (holds y))) (sym a) (subst (λ z. same_value (pos 1) z ≡ cond (holds (pos 1)) (holds z) (not (holds z))) (sym b) refl)
bits_alike x y (inr a) (inr b) =
    subst (λ z. same_value z y ≡ cond (holds z) (holds y) (not (holds y))) (sym a) (subst (λ z. same_value (pos 1) z ≡ cond (holds (pos 1)) (holds z) (not (holds z))) (sym b) refl)

module _ (ρ : Reading) (names : List Name) (terms : List Term) (ok : Proper names terms) (fits : Fits names ρ) (t : ℕ) (h : t < length terms) where
  abbrev v : ℕ → Bool
  v n = is_true ρ terms n

  abbrev ns : List ℕ
  ns = (term_at terms t).args

  bool_bit : (n : ℕ) → n < t → same_sort (sort_at terms n) sort.Bool ≡ true → Bit (value_of ρ terms n)
  bool_bit n l e = bool_bits ρ names terms ok fits n (omega arith) ((same_sort_decides (sort_at terms n) sort.Bool).0 e)

  equiv_arises : (term_at terms t).head ≡ head.Equal → list_all (λ n. same_sort (sort_at terms n) sort.Bool) ns ≡ true → Arises v t ns (situations connective.Equiv)
  equiv_arises e bools =
      let w = equal_args names terms ok t h e in
      let below = subst (AllByRecursion (λ m. m < t)) w.2 (ok t h).before in
      let bs = every_all (λ n. same_sort (sort_at terms n) sort.Bool) (w.0 ∷ w.1 ∷ []) (ap (list_all (λ n. same_sort (sort_at terms n) sort.Bool)) (sym w.2) ∙ bools) in
      equal_two v t ns w.0 w.1 w.2 (v w.0) (v w.1) refl refl
      (equal_true ρ names terms ok t h w.0 w.1 w.2 e
      ∙ bits_alike (value_of ρ terms w.0) (value_of ρ terms w.1) (bool_bit w.0 below.0 bs.0) (bool_bit w.1 below.1.0 bs.1.0))

  by_connective : (k : Connective) → begins k (term_at terms t).head ≡ true → connects k terms t ≡ true → Arises v t ns (situations k)
  by_connective connective.Any b e = either_way v t ns
  by_connective connective.True b e =
      inl (record { whole_is = ap holds (value_by ρ names terms ok t h head.True (head_of_kind (term_at terms t).head head.True b)); known_is = tt })
  by_connective connective.False b e =
      inl (record { whole_is = ap holds (value_by ρ names terms ok t h head.False (head_of_kind (term_at terms t).head head.False b)); known_is = tt })
  by_connective connective.And b e =
      let q = and_true ρ names terms ok t h (head_of_kind (term_at terms t).head head.And b) in
      elim (cases_Bool (list_all v ns)) [
        | inl y ↦ inl (record { whole_is = q ∙ y; known_is = every_all v ns y })
        | inr y ↦ inr (inl (record { whole_is = q ∙ y; known_is = every_not v ns 0 y }))
      ]
  by_connective connective.Or b e =
      let q = or_true ρ names terms ok t h (head_of_kind (term_at terms t).head head.Or b) in
      elim (cases_Bool (list_any v ns)) [
        | inl y ↦ inl (record { whole_is = q ∙ y; known_is = some_where v ns 0 y })
        | inr y ↦ inr (inl (record { whole_is = q ∙ y; known_is = some_none_all v ns y }))
      ]
  by_connective connective.Implies b e =
      let is = head_of_kind (term_at terms t).head head.Implies b in
      let w = implies_args names terms ok t h is in
      implies_two v t ns w.0 w.1 w.2 (v w.0) (v w.1) refl refl (implies_true ρ names terms ok t h w.0 w.1 w.2 is)
  by_connective connective.Equiv b e =
      equiv_arises (head_of_kind (term_at terms t).head head.Equal b) (and_parts (begins connective.Equiv (term_at terms t).head) _ e).1

  pub arises : (k : Connective) → connects k terms t ≡ true → Arises v t ns (situations k)
  arises k e = by_connective k (and_parts (begins k (term_at terms t).head) _ e).0 e
