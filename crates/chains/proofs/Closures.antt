-- The closure that is worked out in rounds is the least set.
use Rattle.std.specs.Prelude.{◌≡◌, ℕ, zero, suc, ◌<◌, ◌≤◌, Bool, true, false, cond, not, ◌&&◌, ◌||◌, List, [], ◌∷◌, ◌++◌, map, length, ◌≢◌, refl}
use Rattle.std.proofs.Common.{inl, inr, sym, ap, subst, ◌∙◌, arith}
use Rattle.std.specs.List.{ContainsAt as Has, list_any}
use Rattle.std.proofs.ByRecursion.{has_append_left, has_append_right}
use Rattle.std.proofs.lemmas.Bool.{cases_Bool, and_parts, and_from, or_left, or_right, both_ways, cond-true, cond-false, not-true, not_from_false}
use Rattle.entries.specs.declared.entry.Literal.{Literal}
use Rattle.entries.specs.Clauses.{complement_of, holds_literal}
use Rattle.entries.specs.Equality.{same_literal}
use Rattle.entries.proofs.Alike.{same_literal_decides}
use Rattle.chains.specs.Chain.{Derived}
use Rattle.chains.specs.Chain.Derived.{denied, forced}
use Rattle.chains.specs.Closure.{forces, literals_in, fresh, after, enough, closure, clashes, is_empty}
use Rattle.chains.specs.Laws.{Saturated, ClosureIsLeast, ChainsDecided}
use Rattle.chains.specs.Derives.{closure_derived, refutes_sound}
use Rattle.referee.proofs.Members.{has_none, has_first, has_cases, has_joined, has_some, has_every, has_kept, kept_has}
use Rattle.chains.specs.Members.{complement_twice, has_complements, holds_has, has_holds}

-- ---- a set with nothing fresh is closed
abbrev Closed : List (List Literal) → List Literal → Type 0
Closed premises known =
    (p : List Literal) (l : Literal) → Has premises p → Has p l → ((m : Literal) → Has p m → (m ≢ l) → Has known (complement_of m)) → Has known l

not_fresh : (premises : List (List Literal)) (known : List Literal) → ((l : Literal) → Has (fresh premises known) l → ⊥) → Closed premises known
not_fresh premises known none p l hp hl others = elim (cases_Bool (holds_literal known l)) [
  | inl t ↦ holds_has known l t
  | inr f ↦
      let each : (m : Literal) → Has p m → (same_literal m l || holds_literal known (complement_of m)) ≡ true = λ m hm.
      elim (cases_Bool (same_literal m l)) [
        | inl s ↦ or_left (same_literal m l) (holds_literal known (complement_of m)) s
        | inr n ↦ or_right (same_literal m l) (holds_literal known (complement_of m)) (has_holds known (complement_of m) (others m hm (λ e. both_ways (same_literal m l) n ((same_literal_decides m l).1 e))))
      ] in
      let y : forces known l p ≡ true = and_from (holds_literal p l) _ (has_holds p l hl) (has_every (λ m. same_literal m l || holds_literal known (complement_of m)) p each) in
      absurd (none l (has_kept (λ l. not (holds_literal known l) && list_any (forces known l) premises) (literals_in premises) l (has_joined premises p l hp hl)
      (and_from (not (holds_literal known l)) (list_any (forces known l) premises) (not_from_false (holds_literal known l) f) (has_some (forces known l) premises p hp y))))
]

-- ---- how many of some literals are not known
abbrev lacking : List Literal → List Literal → ℕ
lacking known [] = 0
lacking known (l ∷ ls) = cond (holds_literal known l) (lacking known ls) (suc (lacking known ls))

lacking_in : (known : List Literal) (l : Literal) (ls : List Literal) → holds_literal known l ≡ true → lacking known (l ∷ ls) ≡ lacking known ls
lacking_in known l ls t = cond-true (holds_literal known l) (lacking known ls) (suc (lacking known ls)) t

lacking_out : (known : List Literal) (l : Literal) (ls : List Literal) → holds_literal known l ≡ false → lacking known (l ∷ ls) ≡ suc (lacking known ls)
lacking_out known l ls f = cond-false (holds_literal known l) (lacking known ls) (suc (lacking known ls)) f

lacking_most : (known ls : List Literal) → lacking known ls ≤ length ls
lacking_most known [] = omega arith
lacking_most known (l ∷ ls) =
    let rest = lacking_most known ls in
    elim (cases_Bool (holds_literal known l)) [
      | inl t ↦ omega (arith, rest, lacking_in known l ls t)
      | inr f ↦ omega (arith, rest, lacking_out known l ls f)
    ]

lacking_none : (known ls : List Literal) → lacking known ls ≡ 0 → (l : Literal) → Has ls l → Has known l
lacking_none known [] z l h = absurd (has_none l h)
lacking_none known (m ∷ ls) z l h = elim (cases_Bool (holds_literal known m)) [
  | inl t ↦ elim (has_cases m ls l h) [
    | inl e ↦ subst (Has known) e (holds_has known m t)
    | inr k ↦ lacking_none known ls (sym (lacking_in known m ls t) ∙ z) l k
  ]
  | inr f ↦ absurd (omega (arith, z, lacking_out known m ls f))
]

module _ (known wider : List Literal) (keeps : (l : Literal) → Has known l → Has wider l) where
  lacking_fewer : (ls : List Literal) → lacking wider ls ≤ lacking known ls
  lacking_fewer [] = omega arith
  lacking_fewer (l ∷ ls) =
      let rest = lacking_fewer ls in
      elim (cases_Bool (holds_literal known l)) [
        | inl t ↦ omega (arith, rest, lacking_in known l ls t, lacking_in wider l ls (has_holds wider l (keeps l (holds_has known l t))))
        | inr f ↦ elim (cases_Bool (holds_literal wider l)) [
          | inl t ↦ omega (arith, rest, lacking_out known l ls f, lacking_in wider l ls t)
          | inr g ↦ omega (arith, rest, lacking_out known l ls f, lacking_out wider l ls g)
        ]
      ]

  -- one that was not known is known now
  lacking_falls : (ls : List Literal) (l : Literal) → Has ls l → holds_literal known l ≡ false → Has wider l → lacking wider ls < lacking known ls
  lacking_falls [] l h f w = absurd (has_none l h)
  lacking_falls (m ∷ ls) l h f w = elim (has_cases m ls l h) [
    | inl e ↦
        let rest = lacking_fewer ls in
        omega (arith, rest, lacking_out known m ls (ap (holds_literal known) e ∙ f), lacking_in wider m ls (ap (holds_literal wider) e ∙ has_holds wider l w))
    | inr k ↦
        let rest = lacking_falls ls l k f w in
        elim (cases_Bool (holds_literal known m)) [
          | inl t ↦ omega (arith, rest, lacking_in known m ls t, lacking_in wider m ls (has_holds wider m (keeps m (holds_has known m t))))
          | inr g ↦ elim (cases_Bool (holds_literal wider m)) [
            | inl t ↦ omega (arith, rest, lacking_out known m ls g, lacking_in wider m ls t)
            | inr n ↦ omega (arith, rest, lacking_out known m ls g, lacking_out wider m ls n)
          ]
        ]
  ]

-- ---- enough rounds close the set
module _ (premises : List (List Literal)) where
  after_keeps : (rounds : ℕ) (known : List Literal) (l : Literal) → Has known l → Has (after premises rounds known) l
  after_keeps zero known l h = h
  after_keeps (suc n) known l h = after_keeps n (fresh premises known ++ known) l (has_append_right (fresh premises known) known l h)

  after_still : (rounds : ℕ) (known : List Literal) → fresh premises known ≡ [] → after premises rounds known ≡ known
  after_still zero known e = refl
  after_still (suc n) known e = ap (λ (new : List Literal). after premises n (new ++ known)) e ∙ after_still n known e

  fresh_falls : (known : List Literal) (x : Literal) (xs : List Literal) → fresh premises known ≡ x ∷ xs → lacking (fresh premises known ++ known) (literals_in premises) < lacking known (literals_in premises)
  fresh_falls known x xs e =
      let h : Has (fresh premises known) x = subst (λ (zs : List Literal). Has zs x) (sym e) (has_first x xs) in
      let w = kept_has (λ l. not (holds_literal known l) && list_any (forces known l) premises) (literals_in premises) x h in
      let new = not-true (holds_literal known x) (and_parts (not (holds_literal known x)) (list_any (forces known x) premises) w.1).0 in
      lacking_falls known (fresh premises known ++ known) (has_append_right (fresh premises known) known) (literals_in premises) x w.0 new (has_append_left (fresh premises known) known x h)

  -- one round more, where the rounds after it close what it leaves
  more_closed : (rounds : ℕ) (known new : List Literal) → fresh premises known ≡ new → lacking known (literals_in premises) ≤ suc rounds →
      (lacking (fresh premises known ++ known) (literals_in premises) ≤ rounds → Closed premises (after premises rounds (fresh premises known ++ known))) →
      Closed premises (after premises (suc rounds) known)
  more_closed n known [] e few rest =
      subst (Closed premises) (sym (after_still (suc n) known e)) (not_fresh premises known (λ l h. has_none l (subst (λ (zs : List Literal). Has zs l) e h)))
  more_closed n known (x ∷ xs) e few rest = rest (omega (arith, few, fresh_falls known x xs e))

  after_closed : (rounds : ℕ) (known : List Literal) → lacking known (literals_in premises) ≤ rounds → Closed premises (after premises rounds known)
  after_closed zero known few = λ p l hp hl others. lacking_none known (literals_in premises) (omega arith) l (has_joined premises p l hp hl)
  after_closed (suc n) known few = more_closed n known (fresh premises known) refl few (after_closed n (fresh premises known ++ known))

-- ---- the closure is the least set
module _ (clause : List Literal) (premises : List (List Literal)) where
  closure_closed : Closed premises (closure clause premises)
  closure_closed = after_closed premises (enough premises) (map complement_of clause) (lacking_most (map complement_of clause) (literals_in premises))

  pub derived_closure : (l : Literal) → Derived clause premises l → Has (closure clause premises) l
  derived_closure l (denied h) = after_keeps premises (enough premises) (map complement_of clause) l (has_complements clause l h)
  derived_closure l (forced {p = p} hp hl others) = closure_closed p l hp hl (λ m hm ne. derived_closure (complement_of m) (others m hm ne))

-- a derived literal is in every set of that kind
derived_within : (clause : List Literal) (premises : List (List Literal)) (set : Literal → Bool) → Saturated clause premises set → (l : Literal) → Derived clause premises l →
    set l ≡ true
derived_within clause premises set w l (denied h) = ap set (sym (complement_twice l)) ∙ w.denied (complement_of l) h
derived_within clause premises set w l (forced {p = p} hp hl others) =
    w.forced p l hp hl (λ m hm ne. derived_within clause premises set w (complement_of m) (others m hm ne))

pub closure_is_least : ClosureIsLeast
closure_is_least clause premises =
    let known = closure clause premises in
    let in_known : (l : Literal) → Derived clause premises l → holds_literal known l ≡ true = λ l d. has_holds known l (derived_closure clause premises l d) in
    let is_derived : (l : Literal) → holds_literal known l ≡ true → Derived clause premises l = λ l t. closure_derived clause premises l (holds_has known l t) in
    record {
      saturated = record {
        denied = λ l h. in_known (complement_of l) (denied (subst (Has clause) (sym (complement_twice l)) h));
        forced = λ p l hp hl others. in_known l (forced hp hl (λ m hm ne. is_derived (complement_of m) (others m hm ne)));
      };
      within = λ set w l t. derived_within clause premises set w l (is_derived l t);
      derived = λ l. (is_derived l, in_known l);
    }

pub chains_decided : ChainsDecided
chains_decided clause premises =
    let known = closure clause premises in (
      refutes_sound clause premises,
      (λ r. elim r [
        | inl w ↦ or_left (clashes known) (list_any is_empty premises) (has_some (λ l. holds_literal known (complement_of l)) known w.0 (derived_closure clause premises w.0 w.1)
            (has_holds known (complement_of w.0) (derived_closure clause premises (complement_of w.0) w.2)))
        | inr h ↦ or_right (clashes known) (list_any is_empty premises) (has_some is_empty premises [] h refl)
      ]),
    )
