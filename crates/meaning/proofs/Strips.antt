-- The steps of a loop that takes the leading `not`s off a term.
use Rattle.std.proofs.Common.{◌≡◌, ℕ, ◌<◌, ◌≤◌, Bool, true, false, not, List, [], ◌∷◌, length, get_or, sym, refl, ap, ◌∙◌, arith}
use Rattle.entries.specs.declared.entry.Head.TheVariants as head
use Rattle.entries.specs.declared.entry.Literal.{Literal}
use Rattle.entries.specs.declared.entry.Term.{Term}
use Rattle.entries.specs.Clauses.{complement_of}
use Rattle.entries.specs.Equality.{same_kind}
use Rattle.meaning.specs.Proper.{Formed, term_at}
use Rattle.meaning.specs.Truth.{positive, literal_of, literal_true}
use Rattle.meaning.specs.Values.{Reading, is_true}
use Rattle.meaning.proofs.Literals.{turned, is_not, literal_inner, literal_own, literal_within, literal_true_lem}
use Rattle.meaning.proofs.Values.{not_args}

not_not : (b : Bool) → b ≡ not (not b)
not_not true = refl
not_not false = refl

turn : (s : Bool) (l : Literal) → turned (not s) l ≡ turned s (complement_of l)
turn true l = λ i. record { negative = not_not l.negative i; term = l.term }
turn false l = refl

own : (s : Bool) (n : ℕ) → turned s (positive n) ≡ record { negative = s; term = n }
own true n = refl
own false n = refl

module _ (ts : List Term) (formed : Formed ts) (n at : ℕ) (s : Bool) (h : at < length ts)
    (inv : turned s (literal_of ts at) ≡ literal_of ts n) where
  module _ (e : same_kind (term_at ts at).head head.Not ≡ true) where
    inner : (a : ℕ) × ((term_at ts at).args ≡ a ∷ []) × (a < at)
    inner = not_args formed.0 ts formed.1 at h (is_not formed.0 ts formed.1 at h e)

    module _ (ns : List ℕ) (is : ns ≡ (term_at ts at).args) where
      args_is : ns ≡ inner.0 ∷ []
      args_is = is ∙ inner.1

      pub strip_some : 0 < length ns
      strip_some = let q = ap length args_is in omega arith

      first_is : get_or ns 0 0 ≡ inner.0
      first_is = ap (λ z. get_or z 0 0) args_is

      pub strip_less : get_or ns 0 0 < at
      strip_less = omega (arith, first_is, inner.2)

      pub strip_again : (get_or ns 0 0 < length ts) × (turned (not s) (literal_of ts (get_or ns 0 0)) ≡ literal_of ts n)
      unfolding inner
      strip_again = (
        omega (arith, strip_less),
        turn s (literal_of ts (get_or ns 0 0)) ∙ ap (λ m. turned s (complement_of (literal_of ts m))) first_is
            ∙ ap (turned s) (sym (literal_inner formed.0 ts formed.1 at h e)) ∙ inv,
      )

  pub strip_done : same_kind (term_at ts at).head head.Not ≡ false → record { negative = s; term = at } ≡ literal_of ts n
  strip_done e = sym (own s at) ∙ ap (turned s) (sym (literal_own formed.0 ts formed.1 at h e)) ∙ inv

-- the literal's term does not stand after the term
pub term_of_lem : (ts : List Term) (n : ℕ) (l : Literal) → Formed ts → n < length ts → l ≡ literal_of ts n → l.term ≤ n
term_of_lem ts n l formed h e =
    omega (arith, ap (λ (m : Literal). m.term) e, literal_within formed.0 ts formed.1 n h)

-- the literal is true where the term is
pub truth_of : (ts : List Term) (n : ℕ) (l : Literal) → Formed ts → n < length ts → l ≡ literal_of ts n → (ρ : Reading) →
    literal_true ρ ts l ≡ is_true ρ ts n
truth_of ts n l formed h e ρ =
    ap (literal_true ρ ts) e ∙ literal_true_lem ρ formed.0 ts formed.1 n h
