-- The law of chains: what follows from true clauses is true.
use Rattle.std.specs.Prelude.{◌≡◌, ℕ, Bool, true, false, not, List, [], ◌≢◌}
use Rattle.std.specs.List.{list_all}
use Rattle.std.proofs.Common.{inl, inr, sym, ap, ◌∙◌}
use Rattle.std.proofs.lemmas.Bool.{cases_Bool, both_ways, not-false, false≢true}
use Rattle.entries.specs.declared.entry.Literal.{Literal}
use Rattle.entries.specs.Clauses.{complement_of}
use Rattle.meaning.specs.Truth.{signed}
use Rattle.meaning.proofs.Literals.{signed_not}
use Rattle.chains.specs.Chain.{Derived, Refutes}
use Rattle.chains.specs.Chain.Derived.{denied, forced}
use Rattle.chains.specs.Laws.{true_under, ChainLaw}
use Rattle.referee.proofs.Members.{some_has, some_not, every_has}
use Rattle.chains.specs.Members.{same_or_not}

abbrev holds : (ℕ → Bool) → Literal → Bool
holds truth l = signed l.negative (truth l.term)

module _ (truth : ℕ → Bool) where
  complement_holds : (l : Literal) → holds truth (complement_of l) ≡ not (holds truth l)
  complement_holds l = signed_not l.negative (truth l.term)

  never_both : (l : Literal) → holds truth l ≡ true → holds truth (complement_of l) ≢ true
  never_both l t u = both_ways (holds truth (complement_of l)) (complement_holds l ∙ ap not t) u

  module _ (clause : List Literal) (premises : List (List Literal)) (out : true_under truth clause ≡ false) (given : list_all (true_under truth) premises ≡ true) where
    -- where the clause is not true and the premises are, each literal of the set is true
    derived_holds : (l : Literal) → Derived clause premises l → holds truth l ≡ true
    derived_holds l (denied h) = not-false (holds truth l) (sym (complement_holds l) ∙ some_not (holds truth) clause out (complement_of l) h)
    derived_holds l (forced {p = p} hp hl others) =
        let w = some_has (holds truth) p (every_has (true_under truth) premises given p hp) in
        elim (same_or_not w.0 l) [
          | inl e ↦ ap (holds truth) (sym e) ∙ w.2
          | inr ne ↦ absurd (never_both w.0 w.2 (derived_holds (complement_of w.0) (others w.0 w.1 ne)))
        ]

    never_refuted : Refutes clause premises → ⊥
    never_refuted (inl r) = never_both r.0 (derived_holds r.0 r.1) (derived_holds (complement_of r.0) r.2)
    never_refuted (inr h) = false≢true (every_has (true_under truth) premises given [] h)

pub chain_law : ChainLaw
chain_law clause premises r truth given = elim (cases_Bool (true_under truth clause)) [
  | inl t ↦ t
  | inr out ↦ absurd (never_refuted truth clause premises out given r)
]
