-- The rulings of the referee of chains: in words, and from what the search answers.
use Rattle.std.specs.Prelude.{◌≡◌, ◌<◌, ◌≤◌, Bool, true, false, cond, ltb, List, [], length, ℤ, codes, Decides, ◌≢◌, nat_lt}
use Rattle.std.proofs.Common.{inl, inr, ap, ◌∙◌, arith}
use Rattle.std.specs.List.{AllByRecursion}
use Rattle.std.specs.Str.{bytes_eq}
use Rattle.std.proofs.ByRecursion.{All-weaker}
use Rattle.std.proofs.lemmas.Slice.Eq.{bytes_eq-Decides}
use Rattle.std.proofs.lemmas.List.{nil_from_length}
use Rattle.std.proofs.lemmas.Bool.{cases_Bool, cond-true, ltb-false, le-ltb, both_ways}
use Rattle.std.proofs.lemmas.Bool.Decides.{Decides-or, same_from_decides}
use Rattle.entries.specs.declared.entry.Literal.{Literal}
use Rattle.referee.specs.Questions.{Asked, Among, Posed}
use Rattle.referee.specs.declared.ruling.Ruling.TheVariants.{Yes, Unmet, Arguments, Overflow}
use Rattle.chains.specs.Chain.{Refutes}
use Rattle.chains.specs.Closure.{refutes}
use Rattle.chains.specs.Rule.{knows_chains, chains, Named, Kept, RulingsInWords}
use Rattle.chains.specs.Sets.{Placed}
use Rattle.chains.specs.Lawful.{judge_unknown, judge_argued, judge_bare_lem, judge_unmet, yes_parts}
use Rattle.chains.proofs.Closures.{chains_decided}

module _ (q : Asked) where
  named_decides : Decides (knows_chains q.rule) (Named q)
  named_decides =
      Decides-or (bytes_eq q.rule (codes "resolution")) (bytes_eq q.rule (codes "th_resolution")) (bytes_eq-Decides q.rule (codes "resolution"))
      (bytes_eq-Decides q.rule (codes "th_resolution"))

  judge_yes : knows_chains q.rule ≡ true → nat_lt 0 (length q.args) ≡ false → refutes q.clause q.premises ≡ true → chains.judge q ≡ Yes
  judge_yes k f r = judge_bare_lem q k f ∙ cond-true (refutes q.clause q.premises) Yes Unmet r

  bare_nil : ltb 0 (length q.args) ≡ false → q.args ≡ []
  bare_nil f = nil_from_length q.args (omega (arith, ltb-false 0 (length q.args) f))

  nil_bare : q.args ≡ [] → nat_lt 0 (length q.args) ≡ false
  nil_bare e = ap (λ (as' : List ℤ). ltb 0 (length as')) e

  -- each ruling comes from one of four ways
  yes_kept : chains.judge q ≡ Yes → Kept q
  yes_kept e =
      let w = yes_parts q e in
      record { named = named_decides.0 w.0; bare = bare_nil w.1; follows = (chains_decided q.clause q.premises).0 w.2 }

  kept_yes : Kept q → chains.judge q ≡ Yes
  kept_yes w = judge_yes (named_decides.1 w.named) (nil_bare w.bare) ((chains_decided q.clause q.premises).1 w.follows)

  argued_why : chains.judge q ≡ Arguments → Named q × (q.args ≢ [])
  argued_why e = elim (cases_Bool (knows_chains q.rule)) [
    | inr f ↦ cc (judge_unknown q f, e)
    | inl k ↦ elim (cases_Bool (nat_lt 0 (length q.args))) [
      | inl t ↦ (named_decides.0 k, λ nil. both_ways (nat_lt 0 (length q.args)) (nil_bare nil) t)
      | inr f ↦ elim (cases_Bool (refutes q.clause q.premises)) [
        | inl r ↦ cc (judge_yes k f r, e)
        | inr r ↦ cc (judge_unmet q k f r, e)
      ]
    ]
  ]

  argued_so : Named q → (q.args ≢ []) → chains.judge q ≡ Arguments
  argued_so n some = elim (cases_Bool (nat_lt 0 (length q.args))) [
    | inl t ↦ judge_argued q (named_decides.1 n) t
    | inr f ↦ absurd (some (bare_nil f))
  ]

  never_overflow : chains.judge q ≡ Overflow → ⊥
  never_overflow e = elim (cases_Bool (knows_chains q.rule)) [
    | inr f ↦ cc (judge_unknown q f, e)
    | inl k ↦ elim (cases_Bool (nat_lt 0 (length q.args))) [
      | inl t ↦ cc (judge_argued q k t, e)
      | inr f ↦ elim (cases_Bool (refutes q.clause q.premises)) [
        | inl r ↦ cc (judge_yes k f r, e)
        | inr r ↦ cc (judge_unmet q k f r, e)
      ]
    ]
  ]

  -- ---- what the search needs and answers
  pub clause_placed : Posed q → Placed q.clause
  clause_placed posed = All-weaker (Among q.terms) (λ (l : Literal). l.term < 4096) (λ l h. omega (arith, posed.few)) q.clause posed.clause

  pub premises_placed : Posed q → AllByRecursion Placed q.premises
  premises_placed posed =
      All-weaker (AllByRecursion (Among q.terms)) Placed (λ p. All-weaker (Among q.terms) (λ (l : Literal). l.term < 4096) (λ l h. omega (arith, posed.few)) p) q.premises posed.premises

  pub ruled_by_lem : knows_chains q.rule ≡ true → length q.args ≤ 0 → (r : Bool) → Decides r (Refutes q.clause q.premises) → chains.judge q ≡ cond r Yes Unmet
  ruled_by_lem k none r d =
      judge_bare_lem q k (le-ltb 0 (length q.args) none)
      ∙ ap (λ b. cond b Yes Unmet) (same_from_decides (refutes q.clause q.premises) r (chains_decided q.clause q.premises) d)

pub rulings_in_words : RulingsInWords
rulings_in_words q = record { yes = yes_kept q; kept = kept_yes q; arguments = argued_why q; argued = argued_so q; never = never_overflow q }
