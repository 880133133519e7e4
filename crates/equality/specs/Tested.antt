-- The test of each rule, and the rule in words.
use Rattle.entries.specs.declared.entry.Term.{Term}
use Rattle.std.specs.Prelude.{◌≡◌, ℕ, Bool, true, ◌&&◌, ◌⊎◌, List, [], ◌∷◌, length, is_some, ◌==◌, nat_eq, nat_lt, refl}
use Rattle.std.proofs.Common.{inl, inr, sym, ap, ◌∙◌, subst}
use Rattle.std.specs.List.{ContainsAt as Has, list_any, list_all}
use Rattle.std.proofs.lemmas.Bool.{and_parts, and_from, or_cases, or_left, or_right, eqb-true, eq-eqb, ltb-true, lt-ltb, false≢true}
use Rattle.entries.specs.declared.entry.Head.TheVariants as head
use Rattle.entries.specs.declared.entry.Literal.{Literal}
use Rattle.entries.specs.Equality.{number_of, same_kind}
use Rattle.entries.proofs.Alike.{head_of_kind, kind_of_head, same_head_decides}
use Rattle.meaning.specs.Proper.{term_at}
use Rattle.referee.specs.Questions.{Asked}
use Rattle.equality.specs.declared.rule.Rule.TheVariants.{Reflexive, Transitive, Congruent, Trans, Cong}
use Rattle.equality.specs.declared.sides.Sides.{Sides}
use Rattle.equality.specs.Heads.{is_operation, one_name, one_operation}
use Rattle.equality.specs.Meaning.{none, meets_rule}
use Rattle.equality.specs.Rules.{reflexive, front, last_sides, leads, transitive, pairs, negates, settled, congruent_at, congruent, through, joins, granted, applied_by}
use Rattle.equality.specs.Sides.{equated, lone, is_sides}
use Rattle.equality.specs.Words.{Equates, Says, args_at, IsReflexive, IsTransitive, IsCongruent, IsJoined, IsApplied, RulesTested}
use Rattle.equality.specs.Ended.{ends_by, ends_of, ends_front, leads_by, leads_of}
use Rattle.equality.specs.Frees.{none_decides}
use Rattle.referee.proofs.Members.{some_has, has_some, every_has, has_every}
use Rattle.equality.specs.Sided.{is_some_by, such_by, such_of, is_sides_by, is_sides_of, equated_by, equated_of, lone_by, lone_of}

abbrev sides : ℕ → ℕ → Sides
sides s t = record { left = s; right = t }

-- ---- eq_reflexive, refl
reflexive_by : (q : Asked) → meets_rule Reflexive q ≡ true → IsReflexive q
reflexive_by q e =
    let both = and_parts (none q.premises) (reflexive q.terms q.clause) e in
    let w = such_by (lone q.terms q.clause) (λ d. nat_eq d.left d.right) both.1 in
    record {
      free = (none_decides q.premises).0 both.0;
      t = w.0.left;
      clause = subst (Says q.terms q.clause w.0.left) (sym (eqb-true w.0.left w.0.right w.2)) (lone_by q.terms q.clause w.0 w.1);
    }

reflexive_of : (q : Asked) → IsReflexive q → meets_rule Reflexive q ≡ true
reflexive_of q w =
    and_from _ _ ((none_decides q.premises).1 w.free)
    (such_of (lone q.terms q.clause) (λ d. nat_eq d.left d.right) (sides w.t w.t) (lone_of q.terms q.clause w.t w.t w.clause) (eq-eqb w.t w.t refl))

-- ---- eq_transitive
transitive_by : (q : Asked) → meets_rule Transitive q ≡ true → IsTransitive q
transitive_by q e =
    let both = and_parts (none q.premises) (transitive q.terms q.clause) e in
    let c = q.clause in
    let w = such_by (last_sides q.terms c) (λ d. nat_lt 0 (length (front c)) && leads q.terms d.left (front c) d.right) both.1 in
    let two = and_parts (nat_lt 0 (length (front c))) (leads q.terms w.0.left (front c) w.0.right) w.2 in
    record {
      free = (none_decides q.premises).0 both.0;
      s = w.0.left;
      t = w.0.right;
      links = front c;
      linked = ltb-true 0 (length (front c)) two.0;
      chain = leads_by q.terms w.0.left (front c) w.0.right two.1;
      ends = ends_by q.terms c w.0 w.1;
    }

transitive_of : (q : Asked) → IsTransitive q → meets_rule Transitive q ≡ true
transitive_of q w =
    let c = q.clause in
    let same = sym (ends_front q.terms c w.links w.s w.t w.ends) in
    and_from _ _ ((none_decides q.premises).1 w.free)
    (such_of (last_sides q.terms c) (λ d. nat_lt 0 (length (front c)) && leads q.terms d.left (front c) d.right) (sides w.s w.t)
    (ends_of q.terms c w.links w.s w.t w.ends)
    (subst (λ ls. (nat_lt 0 (length ls) && leads q.terms w.s ls w.t) ≡ true) same
    (and_from _ _ (lt-ltb 0 (length w.links) w.linked) (leads_of q.terms w.s w.links w.t w.chain))))

-- ---- eq_congruent
module _ (terms : List Term) where
  negates_by : (p : Sides) (l : Literal) → negates terms p l ≡ true → Equates terms true l p.left p.right
  negates_by p l e = equated_by terms true l p (is_sides_by (equated terms true l) p e)

  negates_of : (p : Sides) (l : Literal) → Equates terms true l p.left p.right → negates terms p l ≡ true
  negates_of p l w = is_sides_of (equated terms true l) p (equated_of terms true l p.left p.right w)

  settled_by : (c : List Literal) (p : Sides) → settled terms c p ≡ true → (p.left ≡ p.right) ⊎ ((l : Literal) × Has c l × Equates terms true l p.left p.right)
  settled_by c p e = elim (or_cases (p.left == p.right) (list_any (negates terms p) c) e) [
    | inl h ↦ inl (eqb-true p.left p.right h)
    | inr h ↦ let w = some_has (negates terms p) c h in inr (w.0, w.1, negates_by p w.0 w.2)
  ]

  settled_of : (c : List Literal) (p : Sides) → (p.left ≡ p.right) ⊎ ((l : Literal) × Has c l × Equates terms true l p.left p.right) → settled terms c p ≡ true
  settled_of c p (inl e) = or_left (p.left == p.right) _ (eq-eqb p.left p.right e)
  settled_of c p (inr w) = or_right (p.left == p.right) _ (has_some (negates terms p) c w.0 w.1 (negates_of p w.0 w.2))

congruent_by_lem : (q : Asked) → meets_rule Congruent q ≡ true → IsCongruent q
congruent_by_lem q e =
    let terms = q.terms in
    let c = q.clause in
    let both = and_parts (none q.premises) (congruent terms c) e in
    let w = such_by (last_sides terms c) (congruent_at terms c (front c)) both.1 in
    let s = w.0.left in
    let t = w.0.right in
    let ps = pairs (args_at terms s) (args_at terms t) in
    let one = and_parts (one_name (term_at terms s).head (term_at terms t).head) _ w.2 in
    let named = and_parts (same_kind (term_at terms s).head (head.Declared 0)) _ one.0 in
    let first = head_of_kind (term_at terms s).head (head.Declared 0) named.0 in
    let two = and_parts (length (args_at terms s) == length (args_at terms t)) _ one.1 in
    let three = and_parts (list_all (settled terms c) ps) _ two.1 in
    record {
      free = (none_decides q.premises).0 both.0;
      s = s;
      t = t;
      before = front c;
      ends = ends_by terms c w.0 w.1;
      name = number_of (term_at terms s).head;
      names = (first, sym ((same_head_decides (term_at terms s).head (term_at terms t).head).0 named.1) ∙ first);
      as_many = eqb-true (length (args_at terms s)) (length (args_at terms t)) two.0;
      settled = λ p h. settled_by terms c p (every_has (settled terms c) ps three.0 p h);
      only_pairs = λ l h.
          let found = some_has (λ p. negates terms p l) ps (every_has (λ m. list_any (λ p. negates terms p m) ps) (front c) three.1 l h) in
          (found.0, found.1, negates_by terms found.0 l found.2);
    }

congruent_of : (q : Asked) → IsCongruent q → meets_rule Congruent q ≡ true
congruent_of q w =
    let terms = q.terms in
    let c = q.clause in
    let s = w.s in
    let t = w.t in
    let ps = pairs (args_at terms s) (args_at terms t) in
    let same = sym (ends_front terms c w.before s t w.ends) in
    and_from _ _ ((none_decides q.premises).1 w.free)
    (such_of (last_sides terms c) (congruent_at terms c (front c)) (sides s t) (ends_of terms c w.before s t w.ends)
    (and_from _ _
    (and_from _ _ (kind_of_head (term_at terms s).head (head.Declared w.name) w.names.0)
    ((same_head_decides (term_at terms s).head (term_at terms t).head).1 (w.names.0 ∙ sym w.names.1)))
    (and_from _ _ (eq-eqb (length (args_at terms s)) (length (args_at terms t)) w.as_many)
    (and_from _ _ (has_every (settled terms c) ps (λ p h. settled_of terms c p (w.settled p h)))
    (subst (λ ls. list_all (λ m. list_any (λ p. negates terms p m) ps) ls ≡ true) same
    (has_every (λ m. list_any (λ p. negates terms p m) ps) w.before (λ l h.
    let found = w.only_pairs l h in
    has_some (λ p. negates terms p l) ps found.0 found.1 (negates_of terms found.0 l found.2))))))))

-- ---- trans
joins_by : (terms : List Term) (ps : List (List Literal)) (e : Sides) → joins terms ps e ≡ true → (p q : List Literal) × (ps ≡ p ∷ q ∷ []) × (through terms p q e ≡ true)
joins_by terms [] e t = absurd (false≢true t)
joins_by terms (p ∷ []) e t = absurd (false≢true t)
joins_by terms (p ∷ q ∷ []) e t = (p, q, refl, t)
joins_by terms (p ∷ q ∷ r ∷ ps) e t = absurd (false≢true t)

joined_by : (q : Asked) → meets_rule Trans q ≡ true → IsJoined q
joined_by q e =
    let terms = q.terms in
    let w = such_by (lone terms q.clause) (joins terms q.premises) e in
    let two = joins_by terms q.premises w.0 w.2 in
    let v = such_by (lone terms two.0) (λ d. (d.left == w.0.left) && is_sides (lone terms two.1) (sides d.right w.0.right)) two.3 in
    let both = and_parts (v.0.left == w.0.left) _ v.2 in
    record {
      r = w.0.left;
      s = v.0.right;
      t = w.0.right;
      first = two.0;
      second = two.1;
      both = two.2;
      begins = subst (λ z. Says terms two.0 z v.0.right) (eqb-true v.0.left w.0.left both.0) (lone_by terms two.0 v.0 v.1);
      goes_on = lone_by terms two.1 (sides v.0.right w.0.right) (is_sides_by (lone terms two.1) (sides v.0.right w.0.right) both.1);
      clause = lone_by terms q.clause w.0 w.1;
    }

joined_of : (q : Asked) → IsJoined q → meets_rule Trans q ≡ true
joined_of q w =
    let terms = q.terms in
    such_of (lone terms q.clause) (joins terms q.premises) (sides w.r w.t) (lone_of terms q.clause w.r w.t w.clause)
    (ap (λ ps. joins terms ps (sides w.r w.t)) w.both
    ∙ such_of (lone terms w.first) (λ d. (d.left == w.r) && is_sides (lone terms w.second) (sides d.right w.t)) (sides w.r w.s) (lone_of terms w.first w.r w.s w.begins)
    (and_from _ _ (eq-eqb w.r w.r refl)
    (is_sides_of (lone terms w.second) (sides w.s w.t) (lone_of terms w.second w.s w.t w.goes_on))))

-- ---- cong
module _ (terms : List Term) (premises : List (List Literal)) where
  granted_by : (p : Sides) → granted terms premises p ≡ true → (p.left ≡ p.right) ⊎ ((c : List Literal) × Has premises c × Says terms c p.left p.right)
  granted_by p e = elim (or_cases (p.left == p.right) (list_any (λ c. is_sides (lone terms c) p) premises) e) [
    | inl h ↦ inl (eqb-true p.left p.right h)
    | inr h ↦ let w = some_has (λ c. is_sides (lone terms c) p) premises h in inr (w.0, w.1, lone_by terms w.0 p (is_sides_by (lone terms w.0) p w.2))
  ]

  granted_of : (p : Sides) → (p.left ≡ p.right) ⊎ ((c : List Literal) × Has premises c × Says terms c p.left p.right) → granted terms premises p ≡ true
  granted_of p (inl e) = or_left (p.left == p.right) _ (eq-eqb p.left p.right e)
  granted_of p (inr w) =
      or_right (p.left == p.right) _
      (has_some (λ c. is_sides (lone terms c) p) premises w.0 w.1 (is_sides_of (lone terms w.0) p (lone_of terms w.0 p.left p.right w.2)))

abbrev applied_at : List Term → List (List Literal) → Sides → Bool
applied_at terms premises e =
    one_operation (term_at terms e.left).head (term_at terms e.right).head
    && (length (args_at terms e.left) == length (args_at terms e.right) && applied_by terms premises (pairs (args_at terms e.left) (args_at terms e.right)))

applied_by_lem : (q : Asked) → meets_rule Cong q ≡ true → IsApplied q
applied_by_lem q e =
    let terms = q.terms in
    let w = such_by (lone terms q.clause) (applied_at terms q.premises) e in
    let s = w.0.left in
    let t = w.0.right in
    let ps = pairs (args_at terms s) (args_at terms t) in
    let one = and_parts (one_operation (term_at terms s).head (term_at terms t).head) _ w.2 in
    let headed = and_parts (is_operation (term_at terms s).head) _ one.0 in
    let two = and_parts (length (args_at terms s) == length (args_at terms t)) _ one.1 in
    let three = and_parts (list_all (granted terms q.premises) ps) _ two.1 in
    record {
      s = s;
      t = t;
      clause = lone_by terms q.clause w.0 w.1;
      operation = headed.0;
      heads = (same_head_decides (term_at terms s).head (term_at terms t).head).0 headed.1;
      as_many = eqb-true (length (args_at terms s)) (length (args_at terms t)) two.0;
      granted = λ p h. granted_by terms q.premises p (every_has (granted terms q.premises) ps three.0 p h);
      equalities = λ c h.
          let d = is_some_by (lone terms c) (every_has (λ k. is_some (lone terms k)) q.premises three.1 c h) in
          (d.0.left, d.0.right, lone_by terms c d.0 d.1);
    }

applied_of : (q : Asked) → IsApplied q → meets_rule Cong q ≡ true
applied_of q w =
    let terms = q.terms in
    let s = w.s in
    let t = w.t in
    let ps = pairs (args_at terms s) (args_at terms t) in
    such_of (lone terms q.clause) (applied_at terms q.premises) (sides s t) (lone_of terms q.clause s t w.clause)
    (and_from _ _ (and_from _ _ w.operation ((same_head_decides (term_at terms s).head (term_at terms t).head).1 w.heads))
    (and_from _ _ (eq-eqb (length (args_at terms s)) (length (args_at terms t)) w.as_many)
    (and_from _ _ (has_every (granted terms q.premises) ps (λ p h. granted_of terms q.premises p (w.granted p h)))
    (has_every (λ k. is_some (lone terms k)) q.premises (λ c h. let d = w.equalities c h in ap is_some (lone_of terms c d.0 d.1 d.2))))))

pub rules_tested : RulesTested
rules_tested Reflexive q = (reflexive_by q, reflexive_of q)
rules_tested Transitive q = (transitive_by q, transitive_of q)
rules_tested Congruent q = (congruent_by_lem q, congruent_of q)
rules_tested Trans q = (joined_by q, joined_of q)
rules_tested Cong q = (applied_by_lem q, applied_of q)
