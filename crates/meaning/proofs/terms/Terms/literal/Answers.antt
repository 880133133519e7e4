use Rattle.std.proofs.Common.{sym, ap, ◌∙◌}
use Rattle.entries.specs.declared.entry.Term.{Term}
use Rattle.entries.specs.declared.entry.Head.TheVariants as head
use Rattle.entries.specs.Equality.{same_kind}
use Rattle.meaning.proofs.Strips.{strip_some, strip_less, strip_again, strip_done, term_of_lem, truth_of}
use Rattle.meaning.proofs.terms.Terms.literal.Goals as goal

pub bounds-args-0 : goal.bounds-args-0
bounds-args-0 c =
    strip_some c.args.self.now c.at.ensures.formed c.args.n c.loop-at.at c.loop-at.negative c.loop-at.invariant.0 c.loop-at.invariant.1
    (sym (c.loop-at-test.ensures ∙ ap (λ (t : Term). same_kind t.head head.Not) c.at.ensures.term))
    c.args-in-loop-at.result.now (c.args-in-loop-at.ensures.numbers ∙ ap (λ (t : Term). t.args) c.at-in-loop-at.ensures.term)

pub loop-at-smaller : goal.loop-at-smaller
loop-at-smaller c =
    strip_less c.args.self.now c.at.ensures.formed c.args.n c.loop-at.at c.loop-at.negative c.loop-at.invariant.0 c.loop-at.invariant.1
    (sym (c.loop-at-test.ensures ∙ ap (λ (t : Term). same_kind t.head head.Not) c.at.ensures.term))
    c.args-in-loop-at.result.now (c.args-in-loop-at.ensures.numbers ∙ ap (λ (t : Term). t.args) c.at-in-loop-at.ensures.term)

pub loop-at-preserved : goal.loop-at-preserved
loop-at-preserved c =
    strip_again c.args.self.now c.at.ensures.formed c.args.n c.loop-at.at c.loop-at.negative c.loop-at.invariant.0 c.loop-at.invariant.1
    (sym (c.loop-at-test.ensures ∙ ap (λ (t : Term). same_kind t.head head.Not) c.at.ensures.term))
    c.args-in-loop-at.result.now (c.args-in-loop-at.ensures.numbers ∙ ap (λ (t : Term). t.args) c.at-in-loop-at.ensures.term)

pub returns : goal.returns
returns c =
    let is =
    strip_done c.args.self.now c.at.ensures.formed c.args.n c.loop-at.at c.loop-at.negative c.loop-at.invariant.0 c.loop-at.invariant.1
    (sym (c.loop-at-test.ensures ∙ ap (λ (t : Term). same_kind t.head head.Not) c.at.ensures.term)) in
    record { literal = is; within = term_of_lem c.args.self.now c.args.n _ c.at.ensures.formed c.requires is; truth = truth_of c.args.self.now c.args.n _ c.at.ensures.formed c.requires is }
