use Rattle.entries.proofs.Padding.{padded_more}
use Rattle.entries.proofs.few.Few.push.Goals as goal

pub invariant_of-self : goal.invariant_of-self
invariant_of-self g c = padded_more _ _ _ _ _ c.args.item c.self.invariant c.self.view_is c.requires
