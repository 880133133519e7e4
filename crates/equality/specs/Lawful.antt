-- What keeps a rule of equality is entailed.
use Rattle.entries.specs.declared.entry.Name.{Name}
use Rattle.entries.specs.declared.entry.Term.{Term}
use Rattle.std.specs.Prelude.{◌≡◌, ℕ, ◌<◌, Bool, true, false, not, List, [], ◌∷◌, map, length, ℤ, is_some, Some, None, Option, refl}
use Rattle.std.proofs.Common.{inl, inr, sym, ap, ◌∙◌, subst, arith}
use Rattle.std.specs.List.{ContainsAt as Has, AllByRecursion, list_all}
use Rattle.std.proofs.ByRecursion.{all-has, has_append_left, has_push}
use Rattle.std.proofs.lemmas.Bool.{cases_Bool, true≢false}
use Rattle.entries.specs.declared.entry.Literal.{Literal}
use Rattle.meaning.specs.Proper.{Proper, term_at}
use Rattle.meaning.specs.Truth.{signed, literal_true, clause_true}
use Rattle.meaning.specs.Values.{Reading, same_value, value, value_of, is_true}
use Rattle.meaning.proofs.Values.{same_value_decides, value_at, equal_true}
use Rattle.referee.specs.declared.ruling.Ruling.TheVariants.{Unmet}
use Rattle.referee.specs.Meaning.{Entailed, Lawful, Modest}
use Rattle.referee.specs.Questions.{Asked, Among, Posed}
use Rattle.equality.specs.declared.rule.Rule.{Rule}
use Rattle.equality.specs.declared.rule.Rule.TheVariants.{Reflexive, Transitive, Congruent, Trans, Cong}
use Rattle.equality.specs.declared.sides.Sides.{Sides}
use Rattle.equality.specs.Meaning.{ruled, equality}
use Rattle.equality.specs.Names.{rule_named}
use Rattle.equality.specs.Rules.{pairs}
use Rattle.equality.specs.Words.{Equates, Says, Ends, Chain, args_at, IsReflexive, IsTransitive, IsCongruent, IsJoined, IsApplied, Meets, is_yes}
use Rattle.equality.specs.Keeping.{yes_to_kept}
use Rattle.referee.proofs.Members.{has_first, has_on, has_some, every_has, some_not, some_has}

not_is_false : (b : Bool) → not b ≡ false → b ≡ true
not_is_false true e = refl
not_is_false false e = absurd (true≢false e)

-- lists of which each pair has one value have the same values
map_pairs : (f : ℕ → ℤ) (ss ts : List ℕ) → length ss ≡ length ts → ((p : Sides) → Has (pairs ss ts) p → f p.left ≡ f p.right) → map f ss ≡ map f ts
map_pairs f [] [] e g = refl
map_pairs f [] (t ∷ ts) e g = absurd (omega arith)
map_pairs f (s ∷ ss) [] e g = absurd (omega arith)
map_pairs f (s ∷ ss) (t ∷ ts) e g =
    let first = g (record { left = s; right = t }) (has_first (record { left = s; right = t }) (pairs ss ts)) in
    let rest = map_pairs f ss ts (omega arith) (λ p h. g p (has_on (record { left = s; right = t }) (pairs ss ts) p h)) in
    ap (λ v. v ∷ map f ss) first ∙ ap (λ vs. f t ∷ vs) rest

module _ (ρ : Reading) (names : List Name) (terms : List Term) (ok : Proper names terms) where
  -- an equality is true where its sides have one value
  equates_true : (negative : Bool) (l : Literal) (s t : ℕ) → Equates terms negative l s t → Among terms l →
      literal_true ρ terms l ≡ signed negative (same_value (value_of ρ terms s) (value_of ρ terms t))
  equates_true negative l s t w h =
      ap (λ b. signed b (is_true ρ terms l.term)) w.sign
      ∙ ap (signed negative) (equal_true ρ names terms ok l.term h s t w.between w.equal)

  true_equal : (l : Literal) (s t : ℕ) → Equates terms false l s t → Among terms l → literal_true ρ terms l ≡ true → value_of ρ terms s ≡ value_of ρ terms t
  true_equal l s t w h e = (same_value_decides (value_of ρ terms s) (value_of ρ terms t)).0 (sym (equates_true false l s t w h) ∙ e)

  equal_true_of : (l : Literal) (s t : ℕ) → Equates terms false l s t → Among terms l → value_of ρ terms s ≡ value_of ρ terms t → literal_true ρ terms l ≡ true
  equal_true_of l s t w h e = equates_true false l s t w h ∙ (same_value_decides (value_of ρ terms s) (value_of ρ terms t)).1 e

  -- a negated one is false where they have
  false_equal : (l : Literal) (s t : ℕ) → Equates terms true l s t → Among terms l → literal_true ρ terms l ≡ false → value_of ρ terms s ≡ value_of ρ terms t
  false_equal l s t w h e =
      (same_value_decides (value_of ρ terms s) (value_of ρ terms t)).0 (not_is_false (same_value (value_of ρ terms s) (value_of ρ terms t)) (sym (equates_true true l s t w h) ∙ e))

  -- the sides of an equality are terms of the list
  sides_within : (negative : Bool) (l : Literal) (s t : ℕ) → Equates terms negative l s t → Among terms l → (s < length terms) × (t < length terms)
  sides_within negative l s t w h =
      let before = subst (AllByRecursion (λ m. m < l.term)) w.between (ok l.term h).before in
      (omega (arith, before.0), omega (arith, before.1))

  -- terms with one head and arguments of the same values have one value
  congruence : (s t : ℕ) → s < length terms → t < length terms → (term_at terms s).head ≡ (term_at terms t).head → length (args_at terms s) ≡ length (args_at terms t) →
      ((p : Sides) → Has (pairs (args_at terms s) (args_at terms t)) p → value_of ρ terms p.left ≡ value_of ρ terms p.right) → value_of ρ terms s ≡ value_of ρ terms t
  congruence s t in-s in-t heads as_many g =
      value_at ρ names terms ok s in-s
      ∙ ap (λ h. value ρ h (map (value_of ρ terms) (args_at terms s))) heads
      ∙ ap (value ρ (term_at terms t).head) (map_pairs (value_of ρ terms) (args_at terms s) (args_at terms t) as_many g)
      ∙ sym (value_at ρ names terms ok t in-t)

  -- ---- a clause that is one equality
  module _ (c : List Literal) (s t : ℕ) (w : Says terms c s t) (known : AllByRecursion (Among terms) c) where
    said_within : Among terms w.literal
    said_within = all-has (Among terms) c w.literal known w.has

    said_equal : clause_true ρ terms c ≡ true → value_of ρ terms s ≡ value_of ρ terms t
    said_equal e =
        let found = some_has (literal_true ρ terms) c e in
        true_equal w.literal s t w.equates said_within (subst (λ l. literal_true ρ terms l ≡ true) (w.alone found.0 found.1) found.2)

    equal_said : value_of ρ terms s ≡ value_of ρ terms t → clause_true ρ terms c ≡ true
    equal_said e = has_some (literal_true ρ terms) c w.literal w.has (equal_true_of w.literal s t w.equates said_within e)

  -- ---- a clause whose last literal is an equality
  module _ (c before : List Literal) (s t : ℕ) (w : Ends terms c before s t) (known : AllByRecursion (Among terms) c) where
    has_last : Has c w.last
    has_last = subst (λ z. Has z w.last) (sym w.written) (has_push before w.last)

    has_before : (l : Literal) → Has before l → Has c l
    has_before l h = subst (λ z. Has z l) (sym w.written) (has_append_left before (w.last ∷ []) l h)

    last_within : Among terms w.last
    last_within = all-has (Among terms) c w.last known has_last

    -- it is true where its sides have one value as soon as no literal is true
    ended_true : (clause_true ρ terms c ≡ false → value_of ρ terms s ≡ value_of ρ terms t) → clause_true ρ terms c ≡ true
    ended_true g = elim (cases_Bool (clause_true ρ terms c)) [
      | inl e ↦ e
      | inr e ↦ has_some (literal_true ρ terms) c w.last has_last (equal_true_of w.last s t w.equates last_within (g e))
    ]

  -- the ends of a chain of false literals have one value
  chain_equal : (s : ℕ) (ls : List Literal) (t : ℕ) → ((l : Literal) → Has ls l → Among terms l × (literal_true ρ terms l ≡ false)) → Chain terms s ls t → value_of ρ terms s ≡ value_of ρ terms t
  chain_equal s [] t g e = ap (value_of ρ terms) e
  chain_equal s (l ∷ ls) t g w =
      let here = g l (has_first l ls) in
      false_equal l s w.0 w.1 here.0 here.1 ∙ chain_equal w.0 ls t (λ m h. g m (has_on l ls m h)) w.2

-- ---- the rules
module _ (names : List Name) (q : Asked) (ok : Proper names q.terms) (posed : Posed q) where
  reflexive_entailed : IsReflexive q → Entailed names q
  reflexive_entailed w ρ fits premises = equal_said ρ names q.terms ok q.clause w.t w.t w.clause posed.clause refl

  transitive_entailed : IsTransitive q → Entailed names q
  transitive_entailed w ρ fits premises =
      ended_true ρ names q.terms ok q.clause w.links w.s w.t w.ends posed.clause
      (λ e. chain_equal ρ names q.terms ok w.s w.links w.t
      (λ l h.
      let there = has_before ρ names q.terms ok q.clause w.links w.s w.t w.ends posed.clause l h in
      (all-has (Among q.terms) q.clause l posed.clause there, some_not (literal_true ρ q.terms) q.clause e l there))
      w.chain)

  congruent_entailed : IsCongruent q → Entailed names q
  congruent_entailed w ρ fits premises =
      let last = w.ends.last in
      let inside = sides_within ρ names q.terms ok false last w.s w.t w.ends.equates
      (last_within ρ names q.terms ok q.clause w.before w.s w.t w.ends posed.clause) in
      ended_true ρ names q.terms ok q.clause w.before w.s w.t w.ends posed.clause
      (λ e. congruence ρ names q.terms ok w.s w.t inside.0 inside.1 (w.names.0 ∙ sym w.names.1) w.as_many
      (λ p h. elim (w.settled p h) [
        | inl same ↦ ap (value_of ρ q.terms) same
        | inr found ↦
            false_equal ρ names q.terms ok found.0 p.left p.right found.2
            (all-has (Among q.terms) q.clause found.0 posed.clause found.1)
            (some_not (literal_true ρ q.terms) q.clause e found.0 found.1)
      ]))

  -- a premise that is an equality gives its sides one value
  premise_equal : (ρ : Reading) → list_all (clause_true ρ q.terms) q.premises ≡ true → (c : List Literal) (s t : ℕ) → Has q.premises c → Says q.terms c s t →
      value_of ρ q.terms s ≡ value_of ρ q.terms t
  premise_equal ρ premises c s t h w =
      said_equal ρ names q.terms ok c s t w (all-has (AllByRecursion (Among q.terms)) q.premises c posed.premises h) (every_has (clause_true ρ q.terms) q.premises premises c h)

  joined_entailed : IsJoined q → Entailed names q
  joined_entailed w ρ fits premises =
      let first = subst (λ ps. Has ps w.first) (sym w.both) (has_first w.first (w.second ∷ [])) in
      let second = subst (λ ps. Has ps w.second) (sym w.both) (has_on w.first (w.second ∷ []) w.second (has_first w.second [])) in
      equal_said ρ names q.terms ok q.clause w.r w.t w.clause posed.clause
      (premise_equal ρ premises w.first w.r w.s first w.begins ∙ premise_equal ρ premises w.second w.s w.t second w.goes_on)

  applied_entailed : IsApplied q → Entailed names q
  applied_entailed w ρ fits premises =
      let inside = sides_within ρ names q.terms ok false w.clause.literal w.s w.t w.clause.equates
      (said_within ρ names q.terms ok q.clause w.s w.t w.clause posed.clause) in
      equal_said ρ names q.terms ok q.clause w.s w.t w.clause posed.clause
      (congruence ρ names q.terms ok w.s w.t inside.0 inside.1 w.heads w.as_many
      (λ p h. elim (w.granted p h) [
        | inl same ↦ ap (value_of ρ q.terms) same
        | inr found ↦ premise_equal ρ premises found.0 p.left p.right found.1 found.2
      ]))

  met_entailed : (r : Rule) → Meets r q → Entailed names q
  met_entailed Reflexive w = reflexive_entailed w
  met_entailed Transitive w = transitive_entailed w
  met_entailed Congruent w = congruent_entailed w
  met_entailed Trans w = joined_entailed w
  met_entailed Cong w = applied_entailed w

pub equality_lawful : Lawful equality
equality_lawful names q ok posed agreed = let k = (yes_to_kept q).0 (ap is_yes agreed) in met_entailed names q ok posed k.rule k.meets

-- A name that is no rule's is not met.
unnamed : (r : Option Rule) (q : Asked) → is_some r ≡ false → ruled r q ≡ Unmet
unnamed None q e = refl
unnamed (Some r) q e = absurd (true≢false e)

pub equality_modest : Modest equality
equality_modest q unknown = unnamed (rule_named q.rule) q unknown
