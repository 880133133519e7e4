-- The referee of chains keeps the law, and is modest.
use Rattle.std.specs.Prelude.{◌≡◌, true, false, length, nat_lt}
use Rattle.std.proofs.Common.{inl, inr, ◌∙◌}
use Rattle.std.proofs.lemmas.Bool.{cases_Bool, cond-true, cond-false}
use Rattle.meaning.specs.Values.{is_true}
use Rattle.referee.specs.Meaning.{Lawful, Modest}
use Rattle.referee.specs.Questions.{Asked}
use Rattle.referee.specs.declared.ruling.Ruling.TheVariants.{Yes, Unmet, Arguments}
use Rattle.chains.specs.Closure.{refutes}
use Rattle.chains.specs.Rule.{knows_chains, judge_chain, judge_bare, chains}
use Rattle.chains.specs.Derives.{refutes_sound}
use Rattle.chains.specs.Entails.{chain_law}

module _ (q : Asked) where
  pub judge_unknown : knows_chains q.rule ≡ false → chains.judge q ≡ Unmet
  judge_unknown f = cond-false (knows_chains q.rule) (judge_bare q) Unmet f

  pub judge_argued : knows_chains q.rule ≡ true → nat_lt 0 (length q.args) ≡ true → chains.judge q ≡ Arguments
  judge_argued k t = cond-true (knows_chains q.rule) (judge_bare q) Unmet k ∙ cond-true (nat_lt 0 (length q.args)) Arguments (judge_chain q) t

  pub judge_bare_lem : knows_chains q.rule ≡ true → nat_lt 0 (length q.args) ≡ false → chains.judge q ≡ judge_chain q
  judge_bare_lem k f = cond-true (knows_chains q.rule) (judge_bare q) Unmet k ∙ cond-false (nat_lt 0 (length q.args)) Arguments (judge_chain q) f

  pub judge_unmet : knows_chains q.rule ≡ true → nat_lt 0 (length q.args) ≡ false → refutes q.clause q.premises ≡ false → chains.judge q ≡ Unmet
  judge_unmet k f r = judge_bare_lem k f ∙ cond-false (refutes q.clause q.premises) Yes Unmet r

  -- what gets a yes has one of the names and no argument, and follows
  pub yes_parts : chains.judge q ≡ Yes → (knows_chains q.rule ≡ true) × (nat_lt 0 (length q.args) ≡ false) × (refutes q.clause q.premises ≡ true)
  yes_parts e = elim (cases_Bool (knows_chains q.rule)) [
    | inr f ↦ cc (judge_unknown f, e)
    | inl k ↦ elim (cases_Bool (nat_lt 0 (length q.args))) [
      | inl t ↦ cc (judge_argued k t, e)
      | inr f ↦ elim (cases_Bool (refutes q.clause q.premises)) [
        | inl r ↦ (k, f, r)
        | inr r ↦ cc (judge_unmet k f r, e)
      ]
    ]
  ]

pub chains_lawful : Lawful chains
chains_lawful names q proper posed agreed ρ fits given =
    chain_law q.clause q.premises (refutes_sound q.clause q.premises (yes_parts q agreed).2) (is_true ρ q.terms) given

pub chains_modest : Modest chains
chains_modest q unknown = judge_unknown q unknown
