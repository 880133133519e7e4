use Rattle.std.proofs.Common.{◌≡◌, codes, rules}
use Rattle.std.proofs.lemmas.Slice.Eq.{text_from_reads}
use Rattle.forms.proofs.Heads.{is_step, is_assume, is_anchor}
use Rattle.forms.proofs.proof.headed.Goals as goal

pub returns-in-step : goal.returns-in-step
returns-in-step c =
    let word : c.args.head.now ≡ codes "step" = search (rules, text_from_reads) in is_step _ _ word _ c.step.ensures

pub returns-in-assume : goal.returns-in-assume
returns-in-assume c =
    let word : c.args.head.now ≡ codes "assume" = search (rules, text_from_reads) in is_assume _ _ word _ c.assume.ensures

pub returns-in-anchor : goal.returns-in-anchor
returns-in-anchor c =
    let word : c.args.head.now ≡ codes "anchor" = search (rules, text_from_reads) in is_anchor _ _ word _ c.anchor.ensures
