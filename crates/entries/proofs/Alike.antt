-- Equality of entries: what the tests decide.
use Rattle.std.proofs.Common.{◌≡◌, ℕ, Bool, true, false, eqb, [], ◌∷◌, get_or, Decides, sym, refl, ap, ◌∙◌}
use Rattle.std.proofs.lemmas.Slice.Eq.{bytes_eq-Decides}
use Rattle.std.proofs.lemmas.Bool.{and_parts, and_from, eq-eqb, eqb-true, false≢true}
use Rattle.entries.specs.declared.entry.Head.{Head}
use Rattle.entries.specs.declared.entry.Head.TheVariants as head
use Rattle.entries.specs.declared.entry.Literal.{Literal}
use Rattle.entries.specs.declared.entry.Sort.{Sort}
use Rattle.entries.specs.declared.entry.Sort.TheVariants as sort
use Rattle.entries.specs.declared.entry.Term.{Term}
use Rattle.entries.specs.Equality.{kind_of, number_of, same_kind, same_head, same_sort, same_term, same_sign, same_literal}

-- ---- heads
-- the head with a place in the list of heads and a number
abbrev pub head_at : ℕ → ℕ → Head
head_at k n =
    get_or
    (head.True ∷ head.False ∷ head.Not ∷ head.And ∷ head.Or ∷ head.Implies ∷ head.Equal ∷ head.Le ∷ head.Lt ∷ head.Ge ∷ head.Gt ∷ head.Plus ∷ head.Minus ∷ head.Times
    ∷ head.Numeral n ∷ head.Declared n ∷ [])
    k head.True

head_at_lem : (h : Head) → h ≡ head_at (kind_of h) (number_of h)
head_at_lem head.True = refl
head_at_lem head.False = refl
head_at_lem head.Not = refl
head_at_lem head.And = refl
head_at_lem head.Or = refl
head_at_lem head.Implies = refl
head_at_lem head.Equal = refl
head_at_lem head.Le = refl
head_at_lem head.Lt = refl
head_at_lem head.Ge = refl
head_at_lem head.Gt = refl
head_at_lem head.Plus = refl
head_at_lem head.Minus = refl
head_at_lem head.Times = refl
head_at_lem (head.Numeral n) = refl
head_at_lem (head.Declared f) = refl

-- a head of a kind, by the number that it bears
pub head_of_kind : (h k : Head) → same_kind h k ≡ true → h ≡ head_at (kind_of k) (number_of h)
head_of_kind h k t = head_at_lem h ∙ ap (λ i. head_at i (number_of h)) (eqb-true (kind_of h) (kind_of k) t)

pub kind_of_head : (h k : Head) → h ≡ k → same_kind h k ≡ true
kind_of_head h k e = eq-eqb (kind_of h) (kind_of k) (ap kind_of e)

pub same_head_decides : (h k : Head) → Decides (same_head h k) (h ≡ k)
same_head_decides h k = (
  (λ t.
      let p = and_parts (eqb (kind_of h) (kind_of k)) (eqb (number_of h) (number_of k)) t in
      let a = eqb-true (kind_of h) (kind_of k) p.0 in
      let b = eqb-true (number_of h) (number_of k) p.1 in
      head_at_lem h ∙ ap (λ i. head_at i (number_of h)) a ∙ ap (head_at (kind_of k)) b ∙ sym (head_at_lem k)),
  (λ e. and_from _ _ (eq-eqb (kind_of h) (kind_of k) (ap kind_of e)) (eq-eqb (number_of h) (number_of k) (ap number_of e))),
)

-- ---- sorts
same_sort_lem : (a b : Sort) → same_sort a b ≡ true → a ≡ b
same_sort_lem sort.Bool sort.Bool t = refl
same_sort_lem sort.Bool sort.Int t = absurd (false≢true t)
same_sort_lem sort.Bool (sort.Declared b) t = absurd (false≢true t)
same_sort_lem sort.Int sort.Bool t = absurd (false≢true t)
same_sort_lem sort.Int sort.Int t = refl
same_sort_lem sort.Int (sort.Declared b) t = absurd (false≢true t)
same_sort_lem (sort.Declared a) sort.Bool t = absurd (false≢true t)
same_sort_lem (sort.Declared a) sort.Int t = absurd (false≢true t)
same_sort_lem (sort.Declared a) (sort.Declared b) t = ap sort.Declared (eqb-true a b t)

own_sort : (a : Sort) → same_sort a a ≡ true
own_sort sort.Bool = refl
own_sort sort.Int = refl
own_sort (sort.Declared a) = eq-eqb a a refl

pub same_sort_decides : (a b : Sort) → Decides (same_sort a b) (a ≡ b)
same_sort_decides a b = (same_sort_lem a b, λ e. ap (same_sort a) (sym e) ∙ own_sort a)

-- ---- terms
pub same_term_decides : (t u : Term) → Decides (same_term t u) (t ≡ u)
same_term_decides t u = (
  (λ e.
      let p = and_parts (same_head t.head u.head) _ e in
      let q = and_parts (same_sort t.sort u.sort) _ p.1 in
      let h = (same_head_decides t.head u.head).0 p.0 in
      let s = (same_sort_decides t.sort u.sort).0 q.0 in
      let a = (bytes_eq-Decides t.args u.args).0 q.1 in
      λ i. record { head = h i; sort = s i; args = a i }),
  (λ e.
      and_from _ _ ((same_head_decides t.head u.head).1 (ap (λ (v : Term). v.head) e))
      (and_from _ _ ((same_sort_decides t.sort u.sort).1 (ap (λ (v : Term). v.sort) e)) ((bytes_eq-Decides t.args u.args).1 (ap (λ (v : Term). v.args) e)))),
)

-- ---- literals
pub same_sign_lem : (a b : Bool) → same_sign a b ≡ true → a ≡ b
same_sign_lem true true t = refl
same_sign_lem true false t = absurd (false≢true t)
same_sign_lem false true t = absurd (false≢true t)
same_sign_lem false false t = refl

pub own_sign : (a : Bool) → same_sign a a ≡ true
own_sign true = refl
own_sign false = refl

pub same_literal_decides : (l m : Literal) → Decides (same_literal l m) (l ≡ m)
same_literal_decides l m = (
  (λ e.
      let p = and_parts (same_sign l.negative m.negative) _ e in
      let s = same_sign_lem l.negative m.negative p.0 in
      let t = eqb-true l.term m.term p.1 in
      λ i. record { negative = s i; term = t i }),
  (λ e.
      and_from _ _ (ap (same_sign l.negative) (sym (ap (λ (v : Literal). v.negative) e)) ∙ own_sign l.negative)
      (eq-eqb l.term m.term (ap (λ (v : Literal). v.term) e))),
)
