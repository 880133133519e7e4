-- What the values of a proper list are.
use Rattle.std.proofs.Common.{◌≡◌, ℕ, ◌<◌, Bool, true, false, not, ◌&&◌, ◌||◌, ltb, List, [], ◌∷◌, map, length, ℤ, pos, negsuc, Decides, sym, refl, ap, ◌∙◌, subst, inl, inr, arith}
use lib.Signed.{le_z, lt_z}
use Rattle.std.specs.List.{AllByRecursion, list_any, list_all}
use Rattle.std.proofs.lemmas.List.{length-map}
use Rattle.std.proofs.lemmas.Bool.{and_parts, eqb-true, eq-eqb, ltb-true, false≢true}
use Rattle.entries.specs.declared.entry.Name.{Name}
use Rattle.entries.specs.declared.entry.Sort.{Sort}
use Rattle.entries.specs.declared.entry.Sort.TheVariants as sort
use Rattle.entries.specs.declared.entry.Head.{Head}
use Rattle.entries.specs.declared.entry.Head.TheVariants as head
use Rattle.entries.specs.declared.entry.Term.{Term}
use Rattle.meaning.specs.Laws.{ValuesKept, BoolBits, TrueAtOne}
use Rattle.meaning.specs.Proper.{term_at, sort_at, scales, Proper}
use Rattle.meaning.specs.Sorts.{name_at, same_sorts, takes_sorts, gives_sort}
use Rattle.meaning.specs.Values.{Reading, Fits, Bit, same_value, holds, fact, value, value_of, is_true}
use Rattle.meaning.proofs.Built.{built_kept, built_at}
use Rattle.meaning.proofs.Sorted.{same_sorts_decides, one_from_map, two_from_map, twins_from_map}

pub values_kept : ValuesKept
values_kept ρ terms more n h = built_kept (pos 0) (λ n t vs. value ρ t.head vs) terms more n h

-- ---- a term is true exactly where its value is 1
same_value_lem : (v w : ℤ) → same_value v w ≡ true → v ≡ w
same_value_lem (pos a) (pos b) e = ap pos (eqb-true a b e)
same_value_lem (pos a) (negsuc b) e = absurd (false≢true e)
same_value_lem (negsuc a) (pos b) e = absurd (false≢true e)
same_value_lem (negsuc a) (negsuc b) e = ap negsuc (eqb-true a b e)

own_value : (v : ℤ) → same_value v v ≡ true
own_value (pos a) = eq-eqb a a refl
own_value (negsuc a) = eq-eqb a a refl

pub same_value_decides : (v w : ℤ) → Decides (same_value v w) (v ≡ w)
same_value_decides v w = (same_value_lem v w, λ e. ap (same_value v) (sym e) ∙ own_value v)

pub true_at_one : TrueAtOne
true_at_one ρ terms n = same_value_decides (value_of ρ terms n) (pos 1)

pub holds_fact : (b : Bool) → holds (fact b) ≡ b
holds_fact true = refl
holds_fact false = refl

-- ---- the value of a term, from its arguments' values
module _ (ρ : Reading) (names : List Name) (terms : List Term) (ok : Proper names terms) (n : ℕ) (h : n < length terms) where
  pub value_at : value_of ρ terms n ≡ value ρ (term_at terms n).head (map (value_of ρ terms) (term_at terms n).args)
  value_at = built_at (pos 0) (λ n t vs. value ρ t.head vs) terms n h (ok n h).before

  pub value_by : (k : Head) → (term_at terms n).head ≡ k → value_of ρ terms n ≡ value ρ k (map (value_of ρ terms) (term_at terms n).args)
  value_by k e = value_at ∙ ap (λ z. value ρ z (map (value_of ρ terms) (term_at terms n).args)) e

  pub value_over : (k : Head) (ns : List ℕ) → (term_at terms n).head ≡ k → (term_at terms n).args ≡ ns → value_of ρ terms n ≡ value ρ k (map (value_of ρ terms) ns)
  value_over k ns e is = value_by k e ∙ ap (λ ms. value ρ k (map (value_of ρ terms) ms)) is

  -- a term whose value states a fact is true where the fact holds
  pub fact_over : (k : Head) (ns : List ℕ) (b : Bool) → (term_at terms n).head ≡ k → (term_at terms n).args ≡ ns → value ρ k (map (value_of ρ terms) ns) ≡ fact b → is_true ρ terms n ≡ b
  fact_over k ns b e is v = ap holds (value_over k ns e is ∙ v) ∙ holds_fact b

-- ---- a Bool term is worth 0 or 1
fact_bit : (b : Bool) → Bit (fact b)
fact_bit true = inr refl
fact_bit false = inl refl

int_bool : {X : Type 0} → ◌≡◌ {A = Sort} sort.Int sort.Bool → X
int_bool e = let z : ◌≡◌ {A = ℕ} 0 1 = cc in absurd (omega arith)

module _ (ρ : Reading) (names : List Name) (fits : Fits names ρ) where
  bit : (h : Head) (ss : List Sort) (vs : List ℤ) → takes_sorts names h ss ≡ true → gives_sort names h ≡ sort.Bool → length vs ≡ length ss → Bit (value ρ h vs)
  bit head.True ss vs t e l = inr refl
  bit head.False ss vs t e l = inl refl
  bit head.Not ss vs t e l = fact_bit _
  bit head.And ss vs t e l = fact_bit _
  bit head.Or ss vs t e l = fact_bit _
  bit head.Implies ss vs t e l = fact_bit _
  bit head.Equal ss vs t e l = fact_bit _
  bit head.Le ss vs t e l = fact_bit _
  bit head.Lt ss vs t e l = fact_bit _
  bit head.Ge ss vs t e l = fact_bit _
  bit head.Gt ss vs t e l = fact_bit _
  bit head.Plus ss vs t e l = int_bool e
  bit head.Minus ss vs t e l = int_bool e
  bit head.Times ss vs t e l = int_bool e
  bit (head.Numeral n) ss vs t e l = int_bool e
  bit (head.Declared f) ss vs t e l =
      let p = and_parts (ltb f (length names)) (same_sorts ss (name_at names f).takes) t in
      fits f (ltb-true f (length names) p.0) e vs (l ∙ ap length ((same_sorts_decides ss (name_at names f).takes).0 p.1))

pub bool_bits : BoolBits
bool_bits ρ names terms ok fits n h e =
    let t = term_at terms n in
    let p = ok n h in
    let takes = (and_parts (takes_sorts names t.head (map (sort_at terms) t.args)) (scales terms t.head t.args) p.formed).0 in
    subst Bit (sym (value_at ρ names terms ok n h))
    (bit ρ names fits t.head (map (sort_at terms) t.args) (map (value_of ρ terms) t.args) takes (sym p.given ∙ e)
    (length-map t.args (value_of ρ terms) ∙ sym (length-map t.args (sort_at terms))))

-- two values that are 0 or 1 are one where they are true together
pub bits_same : (v w : ℤ) → Bit v → Bit w → holds v ≡ holds w → v ≡ w
bits_same v w (inl a) (inl b) e = a ∙ sym b
bits_same v w (inl a) (inr b) e = absurd (false≢true (sym (ap holds a) ∙ e ∙ ap holds b))
bits_same v w (inr a) (inl b) e = absurd (false≢true (sym (ap holds b) ∙ sym e ∙ ap holds a))
bits_same v w (inr a) (inr b) e = a ∙ sym b

-- ---- where a term with a connective is true
pub every_map : {X Y : Type 0} (f : X → Y) (p : Y → Bool) (xs : List X) → list_all p (map f xs) ≡ list_all (λ x. p (f x)) xs
every_map f p [] = refl
every_map f p (x ∷ xs) = ap (λ b. p (f x) && b) (every_map f p xs)

pub some_map : {X Y : Type 0} (f : X → Y) (p : Y → Bool) (xs : List X) → list_any p (map f xs) ≡ list_any (λ x. p (f x)) xs
some_map f p [] = refl
some_map f p (x ∷ xs) = ap (λ b. p (f x) || b) (some_map f p xs)

-- the arguments of a term with an operator
module _ (names : List Name) (terms : List Term) (ok : Proper names terms) (n : ℕ) (h : n < length terms) where
  pub takes_by : (k : Head) → (term_at terms n).head ≡ k → takes_sorts names k (map (sort_at terms) (term_at terms n).args) ≡ true
  takes_by k e =
      let t = term_at terms n in
      subst (λ z. takes_sorts names z (map (sort_at terms) t.args) ≡ true) e
      (and_parts (takes_sorts names t.head (map (sort_at terms) t.args)) (scales terms t.head t.args) (ok n h).formed).0

  -- the one argument of a `not`
  pub not_args : (term_at terms n).head ≡ head.Not → (a : ℕ) × ((term_at terms n).args ≡ a ∷ []) × (a < n)
  not_args e =
      let one = one_from_map (sort_at terms) (term_at terms n).args sort.Bool ((same_sorts_decides _ (sort.Bool ∷ [])).0 (takes_by head.Not e)) in
      (one.0, one.1, (subst (AllByRecursion (λ m. m < n)) one.1 (ok n h).before).0)

  -- the two arguments of an operator that takes these two sorts
  pub two_args : (k : Head) (x y : Sort) → ((ss : List Sort) → takes_sorts names k ss ≡ same_sorts ss (x ∷ y ∷ [])) → (term_at terms n).head ≡ k →
      (a b : ℕ) × ((term_at terms n).args ≡ a ∷ b ∷ [])
  two_args k x y table e =
      let ss = map (sort_at terms) (term_at terms n).args in
      two_from_map (sort_at terms) (term_at terms n).args x y ((same_sorts_decides ss (x ∷ y ∷ [])).0 (sym (table ss) ∙ takes_by k e))

  pub implies_args : (term_at terms n).head ≡ head.Implies → (a b : ℕ) × ((term_at terms n).args ≡ a ∷ b ∷ [])
  implies_args e = two_args head.Implies sort.Bool sort.Bool (λ ss. refl) e

  -- the two arguments of an `=`, of one sort
  pub equal_args : (term_at terms n).head ≡ head.Equal → (a b : ℕ) × ((term_at terms n).args ≡ a ∷ b ∷ []) × (sort_at terms a ≡ sort_at terms b)
  equal_args e = twins_from_map (sort_at terms) (term_at terms n).args (takes_by head.Equal e)

-- where the term is true
module _ (ρ : Reading) (names : List Name) (terms : List Term) (ok : Proper names terms) (n : ℕ) (h : n < length terms) where
  pub and_true : (term_at terms n).head ≡ head.And → is_true ρ terms n ≡ list_all (is_true ρ terms) (term_at terms n).args
  and_true e = fact_over ρ names terms ok n h head.And _ _ e refl refl ∙ every_map (value_of ρ terms) holds (term_at terms n).args

  pub or_true : (term_at terms n).head ≡ head.Or → is_true ρ terms n ≡ list_any (is_true ρ terms) (term_at terms n).args
  or_true e = fact_over ρ names terms ok n h head.Or _ _ e refl refl ∙ some_map (value_of ρ terms) holds (term_at terms n).args

  pub not_true_of : (term_at terms n).head ≡ head.Not → (a : ℕ) → (term_at terms n).args ≡ a ∷ [] → is_true ρ terms n ≡ not (is_true ρ terms a)
  not_true_of e a is = fact_over ρ names terms ok n h head.Not (a ∷ []) _ e is refl

  module _ (a b : ℕ) (is : (term_at terms n).args ≡ a ∷ b ∷ []) where
    pub implies_true : (term_at terms n).head ≡ head.Implies → is_true ρ terms n ≡ (not (is_true ρ terms a) || is_true ρ terms b)
    implies_true e = fact_over ρ names terms ok n h head.Implies (a ∷ b ∷ []) _ e is refl

    pub equal_true : (term_at terms n).head ≡ head.Equal → is_true ρ terms n ≡ same_value (value_of ρ terms a) (value_of ρ terms b)
    equal_true e = fact_over ρ names terms ok n h head.Equal (a ∷ b ∷ []) _ e is refl

    pub le_true : (term_at terms n).head ≡ head.Le → is_true ρ terms n ≡ le_z (value_of ρ terms a) (value_of ρ terms b)
    le_true e = fact_over ρ names terms ok n h head.Le (a ∷ b ∷ []) _ e is refl

    pub lt_true : (term_at terms n).head ≡ head.Lt → is_true ρ terms n ≡ lt_z (value_of ρ terms a) (value_of ρ terms b)
    lt_true e = fact_over ρ names terms ok n h head.Lt (a ∷ b ∷ []) _ e is refl

    pub ge_true : (term_at terms n).head ≡ head.Ge → is_true ρ terms n ≡ le_z (value_of ρ terms b) (value_of ρ terms a)
    ge_true e = fact_over ρ names terms ok n h head.Ge (a ∷ b ∷ []) _ e is refl

    pub gt_true : (term_at terms n).head ≡ head.Gt → is_true ρ terms n ≡ lt_z (value_of ρ terms b) (value_of ρ terms a)
    gt_true e = fact_over ρ names terms ok n h head.Gt (a ∷ b ∷ []) _ e is refl
