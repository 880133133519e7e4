-- A proper list stays proper: one more term, more declared names.
use Rattle.std.proofs.Common.{◌≡◌, ℕ, ◌<◌, ◌≤◌, true, cond, ◌&&◌, ◌||◌, ltb, List, [], ◌∷◌, ◌++◌, map, length, sym, refl, ap, ◌∙◌, subst, inl, inr, ⊎_elim, arith}
use Rattle.std.specs.List.{AllByRecursion}
use Rattle.std.proofs.ByRecursion.{All-weaker}
use Rattle.std.proofs.lemmas.List.{length-append, length_push, get_or_append_left, get_or_push}
use Rattle.std.proofs.lemmas.Bool.{and_parts, and_from, cases_lt, lt-ltb, ltb-true}
use Rattle.entries.specs.declared.entry.Head.{Head}
use Rattle.entries.specs.declared.entry.Head.TheVariants as head
use Rattle.entries.specs.declared.entry.Name.{Name}
use Rattle.entries.specs.declared.entry.Sort.{Sort}
use Rattle.entries.specs.declared.entry.Term.{Term}
use Rattle.entries.specs.Equality.{same_kind}
use Rattle.meaning.specs.Laws.{ProperKept, NamesKept}
use Rattle.meaning.specs.Proper.{no_term, term_at, sort_at, is_numeral, one_numeral, is_factor, factor_first, scales, well_formed, ProperAt, Proper}
use Rattle.meaning.specs.Sorts.{no_name, name_at, same_sorts, takes_sorts, gives_sort}
use Rattle.meaning.specs.Values.{Reading, Fits}
use Rattle.entries.specs.Filing.{file}
use Rattle.entries.proofs.Filings.{file_cases}
use Rattle.meaning.proofs.Built.{map_same}

-- ---- one more term
module _ (terms more : List Term) where
  pub term_at_kept : (n : ℕ) → n < length terms → term_at (terms ++ more) n ≡ term_at terms n
  term_at_kept n h = get_or_append_left terms more no_term n h

  pub sorts_kept : (ns : List ℕ) → AllByRecursion (λ n. n < length terms) ns → map (sort_at (terms ++ more)) ns ≡ map (sort_at terms) ns
  sorts_kept ns w =
      map_same (sort_at (terms ++ more)) (sort_at terms) (λ n. n < length terms) (λ n h. ap (λ (t : Term). t.sort) (term_at_kept n h)) ns w

  numeral_kept : (n : ℕ) → n < length terms → is_numeral (terms ++ more) n ≡ is_numeral terms n
  numeral_kept n h = ap (λ (t : Term). same_kind t.head (head.Numeral 0)) (term_at_kept n h)

  one_kept : (ns : List ℕ) → AllByRecursion (λ n. n < length terms) ns → one_numeral (terms ++ more) ns ≡ one_numeral terms ns
  one_kept [] w = refl
  one_kept (n ∷ []) w = numeral_kept n w.0
  one_kept (n ∷ m ∷ ns) w = refl

  module _ (names : List Name) (ok : Proper names terms) where
    factor_kept : (n : ℕ) → n < length terms → is_factor (terms ++ more) n ≡ is_factor terms n
    factor_kept n h =
        let t = term_at terms n in
        let w = All-weaker (λ m. m < n) (λ m. m < length terms) (λ m b. omega arith) t.args (ok n h).before in
        ap (λ (u : Term). is_numeral (terms ++ more) n || (same_kind u.head head.Minus && one_numeral (terms ++ more) u.args)) (term_at_kept n h)
        ∙ ap (λ b. b || (same_kind t.head head.Minus && one_numeral (terms ++ more) t.args)) (numeral_kept n h)
        ∙ ap (λ b. is_numeral terms n || (same_kind t.head head.Minus && b)) (one_kept t.args w)

    first_kept : (ns : List ℕ) → AllByRecursion (λ n. n < length terms) ns → factor_first (terms ++ more) ns ≡ factor_first terms ns
    first_kept [] w = refl
    first_kept (n ∷ ns) w = factor_kept n w.0

    pub formed_kept : (h : Head) (ns : List ℕ) → AllByRecursion (λ n. n < length terms) ns → well_formed names (terms ++ more) h ns ≡ well_formed names terms h ns
    formed_kept h ns w =
        ap (λ ss. takes_sorts names h ss && scales (terms ++ more) h ns) (sorts_kept ns w)
        ∙ ap (λ b. takes_sorts names h (map (sort_at terms) ns) && cond (same_kind h head.Times) b true) (first_kept ns w)

    pub proper_at_kept : (i : ℕ) (t : Term) → i ≤ length terms → ProperAt names terms i t → ProperAt names (terms ++ more) i t
    proper_at_kept i t le p = record {
      before = p.before;
      few = p.few;
      formed = formed_kept t.head t.args (All-weaker (λ n. n < i) (λ n. n < length terms) (λ n b. omega arith) t.args p.before) ∙ p.formed;
      given = p.given;
    }

pub proper_push : ProperKept
proper_push names terms t ok p i lt =
    let l = length_push terms t in
    ⊎_elim
    (λ (h : i < length terms).
    subst (ProperAt names (terms ++ t ∷ []) i) (sym (term_at_kept terms (t ∷ []) i h)) (proper_at_kept terms (t ∷ []) names ok i (term_at terms i) (omega arith) (ok i h)))
    (λ (h : length terms ≤ i).
    let e : length terms ≡ i = omega arith in
    subst (ProperAt names (terms ++ t ∷ []) i) (sym (get_or_push terms t no_term i e))
    (subst (λ n. ProperAt names (terms ++ t ∷ []) n t) e (proper_at_kept terms (t ∷ []) names ok (length terms) t (omega arith) p)))
    (cases_lt i (length terms))

pub proper_none : (names : List Name) → Proper names []
proper_none names i lt = absurd (omega arith)

-- ---- more declared names
module _ (names more : List Name) where
  takes_kept : (h : Head) (ss : List Sort) → takes_sorts names h ss ≡ true → takes_sorts (names ++ more) h ss ≡ true
  takes_kept head.True ss e = e
  takes_kept head.False ss e = e
  takes_kept head.Not ss e = e
  takes_kept head.And ss e = e
  takes_kept head.Or ss e = e
  takes_kept head.Implies ss e = e
  takes_kept head.Equal ss e = e
  takes_kept head.Le ss e = e
  takes_kept head.Lt ss e = e
  takes_kept head.Ge ss e = e
  takes_kept head.Gt ss e = e
  takes_kept head.Plus ss e = e
  takes_kept head.Minus ss e = e
  takes_kept head.Times ss e = e
  takes_kept (head.Numeral n) ss e = e
  takes_kept (head.Declared f) ss e =
      let p = and_parts (ltb f (length names)) (same_sorts ss (name_at names f).takes) e in
      let lt = ltb-true f (length names) p.0 in
      let l = length-append names more in
      and_from _ _ (lt-ltb f (length (names ++ more)) (omega arith)) (ap (λ (v : Name). same_sorts ss v.takes) (get_or_append_left names more no_name f lt) ∙ p.1)

  gives_kept : (h : Head) (ss : List Sort) → takes_sorts names h ss ≡ true → gives_sort names h ≡ gives_sort (names ++ more) h
  gives_kept head.True ss e = refl
  gives_kept head.False ss e = refl
  gives_kept head.Not ss e = refl
  gives_kept head.And ss e = refl
  gives_kept head.Or ss e = refl
  gives_kept head.Implies ss e = refl
  gives_kept head.Equal ss e = refl
  gives_kept head.Le ss e = refl
  gives_kept head.Lt ss e = refl
  gives_kept head.Ge ss e = refl
  gives_kept head.Gt ss e = refl
  gives_kept head.Plus ss e = refl
  gives_kept head.Minus ss e = refl
  gives_kept head.Times ss e = refl
  gives_kept (head.Numeral n) ss e = refl
  gives_kept (head.Declared f) ss e =
      let p = and_parts (ltb f (length names)) (same_sorts ss (name_at names f).takes) e in
      ap (λ (v : Name). v.gives) (sym (get_or_append_left names more no_name f (ltb-true f (length names) p.0)))

pub proper_names : NamesKept
proper_names names more terms ok i h =
    let t = term_at terms i in
    let p = ok i h in
    let w = and_parts (takes_sorts names t.head (map (sort_at terms) t.args)) (scales terms t.head t.args) p.formed in
    record {
      before = p.before;
      few = p.few;
      formed = and_from _ _ (takes_kept names more t.head (map (sort_at terms) t.args) w.0) w.1;
      given = p.given ∙ gives_kept names more t.head (map (sort_at terms) t.args) w.0;
    }

pub fits_fewer : (names more : List Name) (ρ : Reading) → Fits (names ++ more) ρ → Fits names ρ
fits_fewer names more ρ fits f lt e vs l =
    let q = get_or_append_left names more no_name f lt in
    let k = length-append names more in
    fits f (omega arith) (ap (λ (v : Name). v.gives) q ∙ e) vs (l ∙ ap (λ (v : Name). length v.takes) (sym q))

-- ---- a term is filed
pub proper_filed : (names : List Name) (most : ℕ) (terms : List Term) (t : Term) → Proper names terms → ProperAt names terms (length terms) t → Proper names (file most terms t).1
proper_filed names most terms t ok p = elim (file_cases most terms t) [
  | inl e ↦ subst (Proper names) (sym e) ok
  | inr e ↦ subst (Proper names) (sym e) (proper_push names terms t ok p)
]
