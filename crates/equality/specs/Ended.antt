-- The last literal of a clause and the chain before it: what the tests say, and the same in words.
use Rattle.entries.specs.declared.entry.Term.{Term}
use Rattle.std.specs.Prelude.{◌≡◌, ℕ, ◌+◌, ◌-◌, ◌<◌, true, false, cond, ◌&&◌, List, [], ◌∷◌, ◌++◌, length, take, Some, None, ◌==◌, nat_lt, slice_index_or, refl}
use Rattle.std.proofs.Common.{sym, ap, ◌∙◌, subst, arith}
use Rattle.std.proofs.lemmas.List.{take_all, take_more, length_push, same_from_push}
use Rattle.std.proofs.lemmas.Bool.{and_parts, and_from, eqb-true, eq-eqb, ltb-true, lt-ltb}
use Rattle.entries.specs.declared.entry.Literal.{Literal}
use Rattle.meaning.specs.Truth.{positive}
use Rattle.equality.specs.declared.sides.Sides.{Sides}
use Rattle.equality.specs.Rules.{front, last_sides, leads}
use Rattle.equality.specs.Sides.{equated}
use Rattle.equality.specs.Words.{Equates, Ends, Chain}
use Rattle.equality.specs.Sided.{cond_some, such_by, such_of, equated_by, equated_of}

abbrev last_of : List Literal → Literal
last_of c = slice_index_or c (length c - 1) (positive 0)

split : (c : List Literal) → 0 < length c → c ≡ front c ++ last_of c ∷ []
split c h =
    let whole : take (length c - 1 + 1) c ≡ c = take_all (length c - 1 + 1) c (omega arith) in
    sym whole ∙ take_more c (length c - 1) (positive 0) (omega arith)

module _ (terms : List Term) (c : List Literal) where
  pub ends_by : (e : Sides) → last_sides terms c ≡ Some e → Ends terms c (front c) e.left e.right
  ends_by e is =
      let w = cond_some (nat_lt 0 (length c)) (equated terms false (last_of c)) e is in
      record { last = last_of c; written = split c (ltb-true 0 (length c) w.0); equates = equated_by terms false (last_of c) e w.1 }

  module _ (before : List Literal) (s t : ℕ) (w : Ends terms c before s t) where
    some_last : 0 < length c
    some_last = let n = length_push before w.last in let m = ap length w.written in omega arith

    apart : (front c ≡ before) × (last_of c ≡ w.last)
    apart = same_from_push (front c) before (last_of c) w.last (sym (split c some_last) ∙ w.written)

    pub ends_front : front c ≡ before
    ends_front = apart.0

    pub ends_of : last_sides terms c ≡ Some (record { left = s; right = t })
    ends_of =
        ap (λ b. cond b (equated terms false (last_of c)) None) (lt-ltb 0 (length c) some_last)
        ∙ ap (equated terms false) apart.1
        ∙ equated_of terms false w.last s t w.equates

module _ (terms : List Term) where
  pub leads_by : (s : ℕ) (ls : List Literal) (t : ℕ) → leads terms s ls t ≡ true → Chain terms s ls t
  leads_by s [] t e = eqb-true s t e
  leads_by s (l ∷ ls) t e =
      let w = such_by (equated terms true l) (λ d. (d.left == s) && leads terms d.right ls t) e in
      let both = and_parts (w.0.left == s) (leads terms w.0.right ls t) w.2 in (
        w.0.right,
        subst (λ z. Equates terms true l z w.0.right) (eqb-true w.0.left s both.0) (equated_by terms true l w.0 w.1),
        leads_by w.0.right ls t both.1,
      )

  pub leads_of : (s : ℕ) (ls : List Literal) (t : ℕ) → Chain terms s ls t → leads terms s ls t ≡ true
  leads_of s [] t e = eq-eqb s t e
  leads_of s (l ∷ ls) t w =
      such_of (equated terms true l) (λ d. (d.left == s) && leads terms d.right ls t) (record { left = s; right = w.0 }) (equated_of terms true l s w.0 w.1)
      (and_from _ _ (eq-eqb s s refl) (leads_of w.0 ls t w.2))
