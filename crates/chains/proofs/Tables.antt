-- A set of literals as a list of answers: reads, writes, and how a search goes on with it.
use Rattle.std.proofs.Common.{◌≡◌, ℕ, zero, suc, ◌+◌, ◌-◌, ◌<◌, Bool, true, false, ◌||◌, ◌⊎◌, List, [], ◌∷◌, ◌++◌, length, get_or, take, drop, set, replicate, reverse, sym, refl, ap, ◌∙◌, subst, inl, inr, suc-le-suc, add-one, arith}
use Rattle.std.specs.List.{ContainsAt as Has, AllByRecursion, AllWithin, HoldsAt, list_all}
use Rattle.std.proofs.ByRecursion.{all-has, All-get_or, has_get_or, has_append_left, has_append_right, has_push, has_push_cases}
use Rattle.std.proofs.Math.Seq.{drop-cons}
use Rattle.std.proofs.lemmas.List.{take-append-drop, take_all, length-take, length-drop, get_or-take, get_or-set_same, get_or-set_other, take_more, get_or-reverse, reverse-reverse, length-reverse}
use Rattle.std.proofs.lemmas.Bool.{cases_eq, both_ways, or_cases, or_parts, false≢true, true≢false}
use Rattle.entries.specs.declared.entry.Literal.{Literal}
use Rattle.entries.specs.Clauses.{complement_of}
use Rattle.entries.specs.Equality.{same_literal}
use Rattle.entries.proofs.Alike.{same_literal_decides}
use Rattle.meaning.specs.Truth.{positive}
use Rattle.chains.specs.Chain.{Derived, Refutes}
use Rattle.chains.specs.Chain.Derived.{denied, forced}
use Rattle.chains.specs.Sets.{place_at, place_of, Placed, holds, Holds, Clash, AllOut, ButOne, ButTwo, Sound, Consistent, missing, ClosedAt, Onward, Seeds}
use Rattle.referee.proofs.Members.{has_first, has_cases, every_has, has_append_cases}
use Rattle.referee.proofs.Scans.{every_not}
use Rattle.chains.specs.Members.{complement_twice, complement_own, complement_turn, same_or_not}

-- ---- places
places : (x y : Bool) (m n : ℕ) → place_at x m ≡ place_at y n → (x ≡ y) × (m ≡ n)
places true true m n e = (refl, omega arith)
places true false m n e = absurd (omega arith)
places false true m n e = absurd (omega arith)
places false false m n e = (refl, omega arith)

pub same_place : (a b : Literal) → place_of a ≡ place_of b → a ≡ b
same_place a b e =
    let h = places a.negative b.negative a.term b.term e in
    λ i. record { negative = h.0 i; term = h.1 i }

-- ---- reads
pub lacks : (s : List Bool) (l : Literal) → holds s l ≡ false → Holds s l → ⊥
lacks s l f y = both_ways (holds s l) f y

-- ---- a write
-- one more literal in the set: one fewer is missing
missing_set : (s : List Bool) (k : ℕ) → k < length s → get_or s k false ≡ false → missing (set s k true) < missing s
missing_set [] k h e = absurd (omega arith)
missing_set (true ∷ s) zero h e = absurd (true≢false e)
missing_set (false ∷ s) zero h e = omega arith
missing_set (true ∷ s) (suc k) h e = missing_set s k (omega arith) e
missing_set (false ∷ s) (suc k) h e = suc-le-suc (missing_set s k (omega arith) e)

-- the set with one more literal
abbrev pub with_one : List Bool → Literal → List Bool
with_one s n = set s (place_of n) true

module _ (s : List Bool) (n : Literal) (h : place_of n < length s) where
  holds_new : Holds (with_one s n) n
  holds_new = get_or-set_same s (place_of n) true false h

  holds_cases : (l : Literal) → Holds (with_one s n) l → Holds s l ⊎ (l ≡ n)
  holds_cases l y = elim (cases_eq (place_of l) (place_of n)) [
    | inl q ↦ inr (same_place l n q)
    | inr d ↦ inl (sym (get_or-set_other s (place_of n) (place_of l) true false d) ∙ y)
  ]

  holds_keep : (l : Literal) → Holds s l → Holds (with_one s n) l
  holds_keep l y = elim (cases_eq (place_of l) (place_of n)) [
    | inl q ↦ subst (Holds (with_one s n)) (sym (same_place l n q)) holds_new
    | inr d ↦ get_or-set_other s (place_of n) (place_of l) true false d ∙ y
  ]

  consistent_set : Consistent s → (Holds s (complement_of n) → ⊥) → Consistent (with_one s n)
  consistent_set c free l y z = elim (holds_cases l y) [
    | inl a ↦ elim (holds_cases (complement_of l) z) [
      | inl b ↦ c l a b
      | inr q ↦ free (subst (Holds s) (complement_turn l n q) a)
    ]
    | inr p ↦ elim (holds_cases (complement_of l) z) [
      | inl b ↦ free (subst (λ x. Holds s (complement_of x)) p b)
      | inr q ↦ complement_own l (q ∙ sym p)
    ]
  ]

-- ---- lists that are read from the left
-- the literal at a place
abbrev pub read : List Literal → ℕ → Literal
read c i = get_or c i (positive 0)

pub has_read : (c : List Literal) (i : ℕ) → i < length c → Has c (read c i)
has_read c i h = has_get_or c i (positive 0) h

pub take_read : (c : List Literal) (i : ℕ) → i < length c → take (i + 1) c ≡ take i c ++ read c i ∷ []
take_read c i h = take_more c i (positive 0) h

pub has_take : {X : Type 0} (i : ℕ) (xs : List X) (x : X) → Has (take i xs) x → Has xs x
has_take {X} i xs x h = subst (λ (z : List X). Has z x) (take-append-drop i xs) (has_append_left (take i xs) (drop i xs) x h)

has_reverse : {X : Type 0} (xs : List X) (x : X) → Has xs x → Has (reverse xs) x
has_reverse xs x h =
    let k = h.0 in
    let below : length xs - 1 - k < length (reverse xs) = omega (arith, h.1, length-reverse xs) in
    let back : length xs - 1 - (length xs - 1 - k) ≡ k = omega (arith, h.1) in
    (length xs - 1 - k, below, λ d. get_or-reverse xs (length xs - 1 - k) d (omega (arith, h.1)) ∙ ap (λ n. get_or xs n d) back ∙ h.2 d)

pub reverse_has : {X : Type 0} (xs : List X) (x : X) → Has (reverse xs) x → Has xs x
reverse_has {X} xs x h = subst (λ (z : List X). Has z x) (reverse-reverse xs) (has_reverse (reverse xs) x h)

-- ---- the first set
unset : (n k : ℕ) → get_or (replicate n false) k false ≡ false
unset zero k = refl
unset (suc n) zero = refl
unset (suc n) (suc k) = unset n k

pub seeds_none : (n : ℕ) → Seeds [] (replicate n false)
seeds_none n = record {
  all = λ l g. absurd (omega (arith, g.1));
  only = λ l y. absurd (lacks (replicate n false) l (unset n (place_of l)) y);
  consistent = λ l y z. lacks (replicate n false) l (unset n (place_of l)) y;
}

pub seeds_more : (xs : List Literal) (s : List Bool) (x : Literal) → place_of (complement_of x) < length s → holds s x ≡ false → Seeds xs s →
    Seeds (xs ++ x ∷ []) (with_one s (complement_of x))
seeds_more xs s x h f w = record {
  all = λ l g. elim (has_push_cases xs x (complement_of l) g) [
    | inl a ↦ holds_keep s (complement_of x) h l (w.all l a)
    | inr q ↦ subst (Holds (with_one s (complement_of x))) (sym (complement_turn l x (sym q))) (holds_new s (complement_of x) h)
  ];
  only = λ l y. elim (holds_cases s (complement_of x) h l y) [
    | inl a ↦ has_append_left xs (x ∷ []) (complement_of l) (w.only l a)
    | inr q ↦ subst (Has (xs ++ x ∷ [])) (sym (ap complement_of q ∙ complement_twice x)) (has_push xs x)
  ];
  consistent = consistent_set s (complement_of x) h w.consistent (λ y. lacks s x f (subst (Holds s) (complement_twice x) y));
}

-- two literals of the clause are complements
pub clash_at : (clause xs : List Literal) (s : List Bool) (x : Literal) → ((l : Literal) → Has xs l → Has clause l) → Seeds xs s → Has clause x → Holds s x → Clash clause
clash_at clause xs s x within w h y = (x, h, within (complement_of x) (w.only x y))

-- ---- a premise
not_nil : {X : Type 0} (x : X) (xs : List X) → Has xs x → xs ≡ [] → ⊥
not_nil {X} x xs h e = omega (arith, h.1, ap (length {A = X}) e)

-- the literals from a place on
pub from_place : (p : List Literal) (n : ℕ) → take (length p - n) (drop n p) ≡ drop n p
from_place p n = take_all (length p - n) (drop n p) (omega (arith, length-drop n p))

-- a literal's complement is in the set, and it is not
abbrev pub Out : List Bool → Literal → Type 0
Out s l = Holds s (complement_of l)

abbrev pub Open : List Bool → Literal → Type 0
Open s l = holds s (complement_of l) ≡ false

-- whether a literal's complement is in the set, or the literal is u
abbrev pub is_out : List Bool → Literal → Literal → Bool
is_out s u l = holds s (complement_of l) || same_literal l u

module _ (p : List Literal) (s : List Bool) where
  -- those before a place have their complement in the set
  before_out : (at : ℕ) → AllWithin (Out s) p 0 at → (m : Literal) → Has (take at p) m → Out s m
  before_out at h m (k, lt, f) =
      let below : k < at = omega (arith, length-take at p) in
      subst (Out s) (sym (get_or-take at p k m below) ∙ f m) (h k m (omega arith) below)

  pub left_none : AllWithin (Out s) p 0 (length p) → AllOut p s
  left_none h m (k, lt, f) = subst (Out s) (f m) (h k m (omega arith) lt)

  module _ (at : ℕ) (h : at < length p) (o : HoldsAt (Open s) p at) where
    free : Holds s (complement_of (read p at)) → ⊥
    free y = lacks s (complement_of (read p at)) (o (positive 0)) y

    pub left_one : AllWithin (Out s) p 0 at → list_all (is_out s (read p at)) (drop (at + 1) p) ≡ true → ButOne p s (read p at)
    left_one before t =
        let cut : p ≡ take at p ++ read p at ∷ drop (at + 1) p = sym (take-append-drop at p) ∙ ap (λ z. take at p ++ z) (rw (add-one) (drop-cons p at (positive 0) h)) in
        record {
          has = has_read p at h;
          free = free;
          others = λ m g ne. elim (has_append_cases (take at p) (read p at ∷ drop (at + 1) p) m (subst (λ z. Has z m) cut g)) [
            | inl a ↦ before_out at before m a
            | inr b ↦ elim (has_cases (read p at) (drop (at + 1) p) m b) [
              | inl q ↦ absurd (ne (sym q))
              | inr i ↦ elim (or_cases (holds s (complement_of m)) (same_literal m (read p at)) (every_has (is_out s (read p at)) (drop (at + 1) p) t m i)) [
                | inl y ↦ y
                | inr q ↦ absurd (ne ((same_literal_decides m (read p at)).0 q))
              ]
            ]
          ];
        }

    pub left_two : list_all (is_out s (read p at)) (drop (at + 1) p) ≡ false → ButTwo p s
    left_two t =
        let w = every_not (is_out s (read p at)) (drop (at + 1) p) (read p at) t in
        let b = get_or (drop (at + 1) p) w.0 (read p at) in
        let n = or_parts (holds s (complement_of b)) (same_literal b (read p at)) w.2 in
        record {
          a = read p at;
          b = b;
          has_a = has_read p at h;
          has_b = subst (λ z. Has z b) (take-append-drop (at + 1) p) (has_append_right (take (at + 1) p) (drop (at + 1) p) b (has_get_or (drop (at + 1) p) w.0 (read p at) w.1));
          apart = λ q. both_ways (same_literal b (read p at)) n.1 ((same_literal_decides b (read p at)).1 (sym q));
          free_a = free;
          free_b = lacks s (complement_of b) n.0;
        }

-- ---- a pass: it began at s and is at s', past `done`
pub record Walk (ps done : List (List Literal)) (s s' : List Bool) (grew : Bool) : Type 0 where
  pub onward : Onward ps s s'
  pub grown : grew ≡ true → missing s' < missing s
  pub still : grew ≡ false → (p : List Literal) → Has done p → ClosedAt s' p

pub walk_none : (ps : List (List Literal)) (s : List Bool) → Walk ps [] s s false
walk_none ps s = record {
  onward = record { keeps = λ l y. y; sound = λ clause y. y; consistent = λ y. y; fewer = omega arith };
  grown = λ e. absurd (false≢true e);
  still = λ e p h. absurd (omega (arith, h.1));
}

closed_two : (p : List Literal) (s : List Bool) → ButTwo p s → ClosedAt s p
closed_two p s f = record {
  some = not_nil f.a p f.has_a;
  closed = λ l h o. elim (same_or_not f.a l) [
    | inl e ↦ absurd (f.free_b (o f.b f.has_b (λ q. f.apart (e ∙ sym q))))
    | inr n ↦ absurd (f.free_a (o f.a f.has_a n))
  ];
}

closed_one : (p : List Literal) (s : List Bool) (u : Literal) → ButOne p s u → Holds s u → ClosedAt s p
closed_one p s u f y = record {
  some = not_nil u p f.has;
  closed = λ l h o. elim (same_or_not u l) [
    | inl e ↦ subst (Holds s) e y
    | inr n ↦ absurd (f.free (o u f.has n))
  ];
}

module _ (ps done : List (List Literal)) (s s' : List Bool) (g : Bool) (q : List Literal) where
  walk_closed : Walk ps done s s' g → ClosedAt s' q → Walk ps (done ++ q ∷ []) s s' g
  walk_closed w k = record {
    onward = w.onward;
    grown = w.grown;
    still = λ e p h. elim (has_push_cases done q p h) [ inl a ↦ w.still e p a | inr r ↦ subst (ClosedAt s') r k ];
  }

  pub walk_two : Walk ps done s s' g → ButTwo q s' → Walk ps (done ++ q ∷ []) s s' g
  walk_two w f = walk_closed w (closed_two q s' f)

  pub walk_known : Walk ps done s s' g → (u : Literal) → ButOne q s' u → Holds s' u → Walk ps (done ++ q ∷ []) s s' g
  walk_known w u f y = walk_closed w (closed_one q s' u f y)

  pub walk_new : Walk ps done s s' g → Has ps q → (u : Literal) → ButOne q s' u → place_of u < length s' → holds s' u ≡ false →
      (more : List Bool) → more ≡ with_one s' u → Walk ps (done ++ q ∷ []) s more true
  walk_new w hq u f h y more e = subst (λ z. Walk ps (done ++ q ∷ []) s z true) (sym e) (
      let o = w.onward in
      let fewer : missing (with_one s' u) < missing s' = missing_set s' (place_of u) h y in
      record {
        onward = record {
          keeps = λ l z. holds_keep s' u h l (o.keeps l z);
          sound = λ clause z l v. elim (holds_cases s' u h l v) [
            | inl a ↦ o.sound clause z l a
            | inr r ↦ subst (Derived clause ps) (sym r) (forced hq f.has (λ m hm ne. o.sound clause z (complement_of m) (f.others m hm ne)))
          ];
          consistent = λ z. consistent_set s' u h (o.consistent z) f.free;
          fewer = omega (arith, o.fewer);
        };
        grown = λ _. omega (arith, o.fewer);
        still = λ r. absurd (true≢false r);
      })

-- the next premise, from the last one on
module _ (ps : List (List Literal)) (n : ℕ) (q : List Literal) (h : n < length (reverse ps)) (e : q ≡ get_or (reverse ps) n q) where
  pub next_has : Has ps q
  next_has = reverse_has ps q (subst (Has (reverse ps)) (sym e) (has_get_or (reverse ps) n q h))

  pub walk_on : (m : ℕ) → m ≡ n + 1 → (s s' : List Bool) (g : Bool) → Walk ps (take n (reverse ps) ++ q ∷ []) s s' g → Walk ps (take m (reverse ps)) s s' g
  walk_on m one s s' g w =
      let more : take (n + 1) (reverse ps) ≡ take n (reverse ps) ++ q ∷ [] = take_more (reverse ps) n q h ∙ ap (λ z. take n (reverse ps) ++ z ∷ []) (sym e) in
      subst (λ z. Walk ps z s s' g) (sym more ∙ ap (λ k. take k (reverse ps)) (sym one)) w

-- the premises that were looked at, last first, are all
pub walk_done : (ps : List (List Literal)) (n : ℕ) (s s' : List Bool) → n ≡ length (reverse ps) → Walk ps (take n (reverse ps)) s s' false → (p : List Literal) → Has ps p → ClosedAt s' p
walk_done ps n s s' all w p h = w.still refl p (subst (λ z. Has z p) (sym (take_all n (reverse ps) (omega arith))) (has_reverse ps p h))

-- each literal of a premise is out
pub conflict : (ps : List (List Literal)) (s : List Bool) (q : List Literal) → Has ps q → AllOut q s → (clause : List Literal) → Sound clause ps s → Refutes clause ps
conflict ps s [] hq a clause y = inr hq
conflict ps s (x ∷ xs) hq a clause y =
    let hx : Has (x ∷ xs) x = has_first x xs in
    inl (x, forced hq hx (λ m hm ne. y (complement_of m) (a m hm)), y (complement_of x) (a x hx))

-- ---- between passes
pub record State (clause : List Literal) (ps : List (List Literal)) (s : List Bool) : Type 0 where
  pub all : (l : Literal) → Has clause (complement_of l) → Holds s l
  pub sound : Sound clause ps s
  pub consistent : Consistent s

pub state_first : (clause : List Literal) (ps : List (List Literal)) (s : List Bool) → Seeds clause s → State clause ps s
state_first clause ps s w = record { all = w.all; sound = λ l y. denied (w.only l y); consistent = w.consistent }

pub state_more : (clause : List Literal) (ps : List (List Literal)) (s s' : List Bool) → State clause ps s → Onward ps s s' → State clause ps s'
state_more clause ps s s' w o = record {
  all = λ l h. o.keeps l (w.all l h);
  sound = o.sound clause w.sound;
  consistent = o.consistent w.consistent;
}

-- a closed set holds each derived literal
complete : (clause : List Literal) (ps : List (List Literal)) (s : List Bool) → ((l : Literal) → Has clause (complement_of l) → Holds s l) →
    ((p : List Literal) → Has ps p → ClosedAt s p) → (l : Literal) → Derived clause ps l → Holds s l
complete clause ps s a k l (denied h) = a l h
complete clause ps s a k l (forced {p = p} hp hl f) = (k p hp).closed l hl (λ m hm ne. complete clause ps s a k (complement_of m) (f m hm ne))

pub state_still : (clause : List Literal) (ps : List (List Literal)) (s : List Bool) → State clause ps s → ((p : List Literal) → Has ps p → ClosedAt s p) → Refutes clause ps → ⊥
state_still clause ps s w k (inl r) = w.consistent r.0 (complete clause ps s w.all k r.0 r.1) (complete clause ps s w.all k (complement_of r.0) r.2)
state_still clause ps s w k (inr h) = (k [] h).some refl

-- two literals of the clause are complements
pub clash : (clause : List Literal) (ps : List (List Literal)) → Clash clause → Refutes clause ps
clash clause ps (l, h, g) = inl (l, denied g, denied (subst (Has clause) (sym (complement_twice l)) h))

-- ---- terms that have places
pub placed_read : (c : List Literal) (i : ℕ) → i < length c → Placed c → (read c i).term < 4096
placed_read c i h w = All-get_or (λ (m : Literal). m.term < 4096) c i (positive 0) h w

pub placed_one : (ps : List (List Literal)) (q : List Literal) (s : List Bool) (u : Literal) → Has ps q → ButOne q s u → AllByRecursion Placed ps → u.term < 4096
placed_one ps q s u h f w = all-has (λ (m : Literal). m.term < 4096) q u (all-has Placed ps q w h) f.has
