-- A report as outcome after outcome is added to it.
use Rattle.std.proofs.Common.{◌≡◌, ℕ, ◌+◌, ◌<◌, ◌≤◌, Bool, true, false, cond, eqb, ◌⊎◌, List, [], ◌∷◌, length, get_or, set, sum_by, count_by, sym, ap, ◌∙◌, subst, inl, inr, arith, lit<, get_or-set_other, get_or-set_same}
use Rattle.std.proofs.lemmas.List.Sums.{sum_by-cons}
use Rattle.std.proofs.lemmas.Bool.{cases_Bool, eqb-true, eqb-false}
use Rattle.text.specs.Parts.{Part as Piece}
use Rattle.text.proofs.Lexing.{few_tokens}
use Rattle.pieces.specs.Cutting.{size}
use Rattle.commands.specs.Outcomes.{Comes, kind_of, number, command_count, token_count}
use Rattle.commands.specs.declared.kind.Kind.{Kind}
use Rattle.commands.specs.declared.kind.Kind.TheVariants as kind
use Rattle.commands.specs.declared.outcome.Outcome.{Outcome}
use Rattle.commands.specs.declared.outcome.Outcome.TheVariants.{Skipped, Accepted, Refused}
use Rattle.commands.specs.declared.part.Part.{Part}
use Rattle.proofcheck.specs.Tally.{Each, is_of, Tallied}
use Rattle.proofcheck.specs.declared.report.Report.{Report}

-- how many outcomes of a kind a report has
abbrev of : Report → Kind → ℕ
of report k = get_or report.counts (number k) 0

number_below : (k : Kind) → number k < 9
number_below kind.Skipped = lit< tt
number_below kind.Refused = lit< tt
number_below kind.SetLogic = lit< tt
number_below kind.DeclareSort = lit< tt
number_below kind.DeclareFun = lit< tt
number_below kind.Assert = lit< tt
number_below kind.Assume = lit< tt
number_below kind.Step = lit< tt
number_below kind.Anchor = lit< tt

-- a place of a table is one more where it is counted, and the others stay
bumped : (xs : List ℕ) (i j : ℕ) → i < length xs → get_or (set xs i (get_or xs i 0 + 1)) j 0 ≡ get_or xs j 0 + cond (eqb i j) 1 0
bumped xs i j lt = by (cases_Bool (eqb i j))
  where
    by : (eqb i j ≡ true) ⊎ (eqb i j ≡ false) → get_or (set xs i (get_or xs i 0 + 1)) j 0 ≡ get_or xs j 0 + cond (eqb i j) 1 0
    by (inl e) =
        let same : i ≡ j = eqb-true i j e in
        let one : ◌≡◌ {A = ℕ} (cond (eqb i j) 1 0) 1 = ap (λ b. cond {A = ℕ} b 1 0) e in
        let here : get_or (set xs i (get_or xs i 0 + 1)) j 0 ≡ get_or xs i 0 + 1 = ap (λ k. get_or (set xs i (get_or xs i 0 + 1)) k 0) (sym same) ∙ get_or-set_same xs i (get_or xs i 0 + 1) 0 lt in
        let there : get_or xs i 0 ≡ get_or xs j 0 = ap (λ k. get_or xs k 0) same in
        omega (arith, one, here, there)
    by (inr e) =
        let none : ◌≡◌ {A = ℕ} (cond (eqb i j) 1 0) 0 = ap (λ b. cond {A = ℕ} b 1 0) e in
        omega (arith, none, get_or-set_other xs i j (get_or xs i 0 + 1) 0 (λ q. eqb-false i j e (sym q)))

one_or_none : (b : Bool) → cond {A = ℕ} b 1 0 ≤ 1
one_or_none true = omega arith
one_or_none false = omega arith

few_commands : (o : Outcome) → command_count o ≤ 1
few_commands Skipped = omega arith
few_commands (Accepted command) = omega arith
few_commands (Refused f) = omega arith

-- a command has no more tokens than bytes
tokens_fit : (part : Part) (bytes : List ℕ) (o : Outcome) → Comes part bytes o → token_count o ≤ length bytes
tokens_fit part bytes Skipped comes = omega arith
tokens_fit part bytes (Accepted command) comes = omega (arith, comes.1.1, few_tokens bytes)
tokens_fit part bytes (Refused f) comes = omega arith

-- with the outcomes that are left the report comes to that of all commands
pub record Sums (part : Part) (all : List Piece) (report : Report) (rest : List Outcome) : Type 0 where
  pub whole : List Outcome
  pub each : Each part all whole
  pub accepted : report.commands + sum_by command_count rest ≡ sum_by command_count whole
  pub read : report.tokens + sum_by token_count rest ≡ sum_by token_count whole
  pub kinds : (k : Kind) → of report k + count_by (is_of k) rest ≡ count_by (is_of k) whole

pub record Counted (part : Part) (all : List Piece) (long : ℕ) (report : Report) (left : List Piece) : Type 0 where
  pub onward : (rest : List Outcome) → Each part left rest → Sums part all report rest
  pub few : report.commands + length left ≤ long
  pub fits : report.tokens + size left ≤ long
  pub few_kinds : (k : Kind) → of report k + length left ≤ long

-- the next command is counted
module _ (part : Part) (all was after : List Piece) (long : ℕ) (report : Report) (h : Counted part all long report was) (p : Piece) (e : was ≡ p ∷ after) where
  sized : size was ≡ length p.bytes + size after
  sized = ap (λ ps. size ps) e ∙ sum_by-cons (λ q. length q.bytes) p after

  module _ (o : Outcome) (comes : Comes part p.bytes o) where
    pub room_tokens : report.tokens + token_count o ≤ long
    room_tokens = omega (arith, h.fits, sized, tokens_fit part p.bytes o comes)

    module _ (next : Report) (commands : next.commands ≡ report.commands + command_count o) (read : next.tokens ≡ report.tokens + token_count o) (counts : next.counts ≡ set report.counts (number (kind_of o)) (of report (kind_of o) + 1)) where
      kept : (k : Kind) → of next k ≡ of report k + cond (is_of k o) 1 0
      kept k =
          ap (λ xs. get_or xs (number k) 0) counts
          ∙ bumped report.counts (number (kind_of o)) (number k) (omega (arith, number_below (kind_of o), report.full))

      onward : (rest : List Outcome) → Each part after rest → Sums part all next rest
      onward rest each =
          let s = h.onward (o ∷ rest) (subst (λ ps. Each part ps (o ∷ rest)) (sym e) (comes, each)) in
          record {
            whole = s.whole;
            each = s.each;
            accepted = omega (arith, commands, s.accepted, sum_by-cons command_count o rest);
            read = omega (arith, read, s.read, sum_by-cons token_count o rest);
            kinds = λ k. omega (arith, kept k, s.kinds k, sum_by-cons (λ x. cond (is_of k x) 1 0) o rest);
          }

      pub step : Counted part all long next after
      step = record {
        onward = onward;
        few = omega (arith, commands, few_commands o, h.few, ap length e);
        fits = omega (arith, read, h.fits, sized, tokens_fit part p.bytes o comes);
        few_kinds = λ k. omega (arith, kept k, one_or_none (is_of k o), h.few_kinds k, ap length e);
      }

-- at the end nothing is left
pub done : (part : Part) (all left : List Piece) (long : ℕ) (report : Report) → Counted part all long report left → left ≡ [] → Tallied part all report
done part all left long report h e =
    let s = h.onward [] (subst (λ ps. Each part ps []) (sym e) tt) in
    record {
      outcomes = s.whole;
      each = s.each;
      accepted = omega (arith, s.accepted);
      read = omega (arith, s.read);
      kinds = λ k. omega (arith, s.kinds k);
    }
