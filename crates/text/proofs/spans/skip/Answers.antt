use Rattle.std.proofs.Common.{rules}
use Rattle.text.proofs.Cuts.{blank_skipped, comment_skipped}
use Rattle.text.proofs.spans.skip.Goals as goal

pub loop-at-preserved-in-Blank : goal.loop-at-preserved-in-Blank
loop-at-preserved-in-Blank c = search (rules, blank_skipped)

pub loop-at-preserved : goal.loop-at-preserved
loop-at-preserved c = search (rules, comment_skipped)
