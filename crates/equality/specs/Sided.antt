-- Equalities by their sides: what the tests say, and the same in words.
use Rattle.entries.specs.declared.entry.Term.{Term}
use Rattle.std.specs.Prelude.{◌≡◌, ℕ, Bool, true, false, cond, ◌&&◌, List, [], ◌∷◌, is_some, Some, None, Option, ◌==◌, refl}
use Rattle.std.proofs.Common.{sym, ap, ◌∙◌, subst}
use Rattle.std.specs.List.{ContainsAt as Has, list_all}
use Rattle.std.proofs.lemmas.Bool.{and_parts, and_from, eqb-true, eq-eqb, false≢true}
use Rattle.entries.specs.declared.entry.Head.TheVariants as head
use Rattle.entries.specs.declared.entry.Literal.{Literal}
use Rattle.entries.specs.Equality.{same_kind, same_sign, same_literal}
use Rattle.entries.proofs.Alike.{head_of_kind, kind_of_head, same_literal_decides, same_sign_lem, own_sign}
use Rattle.meaning.specs.Proper.{term_at}
use Rattle.equality.specs.declared.sides.Sides.{Sides}
use Rattle.equality.specs.Sides.{two_of, sides_of, equated, only_of, positive_of, lone, such, is_sides}
use Rattle.equality.specs.Words.{Equates, Says}
use Rattle.referee.proofs.Members.{has_none, has_first, every_has, has_every}

-- ---- something or nothing
pub cond_some : {X : Type 0} (b : Bool) (o : Option X) (x : X) → cond b o None ≡ Some x → (b ≡ true) × (o ≡ Some x)
cond_some true o x e = (refl, e)
cond_some false o x e = cc

pub is_some_by : (o : Option Sides) → is_some o ≡ true → (e : Sides) × (o ≡ Some e)
is_some_by None t = absurd (false≢true t)
is_some_by (Some e) t = (e, refl)

-- ---- sides that meet a test
pub such_by : (o : Option Sides) (f : Sides → Bool) → such o f ≡ true → (e : Sides) × (o ≡ Some e) × (f e ≡ true)
such_by None f t = absurd (false≢true t)
such_by (Some e) f t = (e, refl, t)

pub such_of : (o : Option Sides) (f : Sides → Bool) (e : Sides) → o ≡ Some e → f e ≡ true → such o f ≡ true
such_of o f e is t = ap (λ z. such z f) is ∙ t

pub is_sides_by : (o : Option Sides) (p : Sides) → is_sides o p ≡ true → o ≡ Some p
is_sides_by None p t = absurd (false≢true t)
is_sides_by (Some e) p t =
    let both = and_parts (e.left == p.left) _ t in
    let l = eqb-true e.left p.left both.0 in
    let r = eqb-true e.right p.right both.1 in
    λ i. Some (record { left = l i; right = r i })

pub is_sides_of : (o : Option Sides) (p : Sides) → o ≡ Some p → is_sides o p ≡ true
is_sides_of o p is =
    such_of o (λ e. (e.left == p.left) && e.right == p.right) p is
    (and_from _ _ (eq-eqb p.left p.left refl) (eq-eqb p.right p.right refl))

-- ---- the sides of a literal
two_by : (ns : List ℕ) (e : Sides) → two_of ns ≡ Some e → ns ≡ e.left ∷ e.right ∷ []
two_by [] e is = cc
two_by (s ∷ []) e is = cc
two_by (s ∷ t ∷ []) e is =
    let same : record { left = s; right = t } ≡ e = cc in
    ap (λ (z : Sides). z.left ∷ z.right ∷ []) same
two_by (s ∷ t ∷ u ∷ ns) e is = cc

module _ (terms : List Term) (negative : Bool) (l : Literal) where
  pub equated_by : (e : Sides) → equated terms negative l ≡ Some e → Equates terms negative l e.left e.right
  equated_by e is =
      let t = term_at terms l.term in
      let signs = cond_some (same_sign l.negative negative) (sides_of t) e is in
      let kinds = cond_some (same_kind t.head head.Equal) (two_of t.args) e signs.1 in
      record {
        sign = same_sign_lem l.negative negative signs.0;
        equal = head_of_kind t.head head.Equal kinds.0;
        between = two_by t.args e kinds.1;
      }

  pub equated_of : (s t : ℕ) → Equates terms negative l s t → equated terms negative l ≡ Some (record { left = s; right = t })
  equated_of s t w =
      let u = term_at terms l.term in
      ap (λ b. cond b (sides_of u) None) (ap (λ b. same_sign b negative) w.sign ∙ own_sign negative)
      ∙ ap (λ b. cond b (two_of u.args) None) (kind_of_head u.head head.Equal w.equal)
      ∙ ap two_of w.between

-- ---- the sides of a clause that is one equality
only_by : (c : List Literal) (l : Literal) → only_of c ≡ Some l → Has c l × ((m : Literal) → Has c m → m ≡ l)
only_by [] l is = cc
only_by (k ∷ ks) l is =
    let w = cond_some (list_all (same_literal k) (k ∷ ks)) (Some k) l is in
    let same : k ≡ l = cc (w.1) in
    (subst (Has (k ∷ ks)) same (has_first k ks), λ m h. sym ((same_literal_decides k m).0 (every_has (same_literal k) (k ∷ ks) w.0 m h)) ∙ same)

only_of_lem : (c : List Literal) (l : Literal) → Has c l → ((m : Literal) → Has c m → m ≡ l) → only_of c ≡ Some l
only_of_lem [] l h alone = absurd (has_none l h)
only_of_lem (k ∷ ks) l h alone =
    let same = alone k (has_first k ks) in
    ap (λ b. cond b (Some k) None) (has_every (same_literal k) (k ∷ ks) (λ m g. (same_literal_decides k m).1 (same ∙ sym (alone m g))))
    ∙ ap Some same

module _ (terms : List Term) where
  positive_by : (o : Option Literal) (e : Sides) → positive_of terms o ≡ Some e → (l : Literal) × (o ≡ Some l) × (equated terms false l ≡ Some e)
  positive_by None e is = cc
  positive_by (Some l) e is = (l, refl, is)

  pub lone_by : (c : List Literal) (e : Sides) → lone terms c ≡ Some e → Says terms c e.left e.right
  lone_by c e is =
      let w = positive_by (only_of c) e is in
      let only = only_by c w.0 w.1 in
      record { literal = w.0; has = only.0; alone = only.1; equates = equated_by terms false w.0 e w.2 }

  pub lone_of : (c : List Literal) (s t : ℕ) → Says terms c s t → lone terms c ≡ Some (record { left = s; right = t })
  lone_of c s t w = ap (positive_of terms) (only_of_lem c w.literal w.has w.alone) ∙ equated_of terms false w.literal s t w.equates
