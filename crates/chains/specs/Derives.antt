-- What the closure holds is derived.
use Rattle.std.specs.Prelude.{◌≡◌, ℕ, zero, suc, true, not, ◌&&◌, ◌||◌, List, [], ◌∷◌, ◌++◌, map, refl}
use Rattle.std.proofs.Common.{inl, inr, subst}
use Rattle.std.specs.List.{ContainsAt as Has, list_any, list_all}
use Rattle.std.proofs.lemmas.Bool.{and_parts, or_cases, false≢true}
use Rattle.entries.specs.declared.entry.Literal.{Literal}
use Rattle.entries.specs.Clauses.{complement_of, holds_literal}
use Rattle.entries.specs.Equality.{same_literal}
use Rattle.entries.proofs.Alike.{same_literal_decides}
use Rattle.chains.specs.Chain.{Derived, Refutes}
use Rattle.chains.specs.Chain.Derived.{denied, forced}
use Rattle.chains.specs.Closure.{forces, literals_in, fresh, after, enough, closure, clashes, is_empty, refutes}
use Rattle.referee.proofs.Members.{has_append_cases, some_has, every_has, kept_has}
use Rattle.chains.specs.Members.{complements_has, holds_has}

module _ (clause : List Literal) (premises : List (List Literal)) where
  abbrev AllDerived : List Literal → Type 0
  AllDerived known = (l : Literal) → Has known l → Derived clause premises l

  forced_derived : (known : List Literal) → AllDerived known → (l : Literal) (p : List Literal) → Has premises p → forces known l p ≡ true → Derived clause premises l
  forced_derived known ok l p hp e =
      let t = and_parts (holds_literal p l) (list_all (λ m. same_literal m l || holds_literal known (complement_of m)) p) e in
      forced hp (holds_has p l t.0) (λ m hm ne.
      elim (or_cases (same_literal m l) (holds_literal known (complement_of m)) (every_has (λ m. same_literal m l || holds_literal known (complement_of m)) p t.1 m hm)) [
        | inl s ↦ absurd (ne ((same_literal_decides m l).0 s))
        | inr k ↦ ok (complement_of m) (holds_has known (complement_of m) k)
      ])

  fresh_derived : (known : List Literal) → AllDerived known → AllDerived (fresh premises known ++ known)
  fresh_derived known ok l h = elim (has_append_cases (fresh premises known) known l h) [
    | inl f ↦
        let w = kept_has (λ l. not (holds_literal known l) && list_any (forces known l) premises) (literals_in premises) l f in
        let t = and_parts (not (holds_literal known l)) (list_any (forces known l) premises) w.1 in
        let s = some_has (forces known l) premises t.1 in
        forced_derived known ok l s.0 s.1 s.2
    | inr k ↦ ok l k
  ]

  after_derived : (rounds : ℕ) (known : List Literal) → AllDerived known → AllDerived (after premises rounds known)
  after_derived zero known ok = ok
  after_derived (suc n) known ok = after_derived n (fresh premises known ++ known) (fresh_derived known ok)

  pub closure_derived : (l : Literal) → Has (closure clause premises) l → Derived clause premises l
  closure_derived = after_derived (enough premises) (map complement_of clause) (λ l h. denied (complements_has clause l h))

empty_is : (p : List Literal) → is_empty p ≡ true → p ≡ []
empty_is [] e = refl
empty_is (l ∷ p) e = absurd (false≢true e)

-- What the closure says follows does follow.
pub refutes_sound : (clause : List Literal) (premises : List (List Literal)) → refutes clause premises ≡ true → Refutes clause premises
refutes_sound clause premises t =
    let known = closure clause premises in
    elim (or_cases (clashes known) (list_any is_empty premises) t) [
      | inl c ↦
          let w = some_has (λ l. holds_literal known (complement_of l)) known c in
          inl (w.0, closure_derived clause premises w.0 w.1, closure_derived clause premises (complement_of w.0) (holds_has known (complement_of w.0) w.2))
      | inr c ↦ let w = some_has is_empty premises c in inr (subst (Has premises) (empty_is w.0 w.2) w.1)
    ]
