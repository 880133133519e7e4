use Rattle.std.proofs.Common.{◌≡◌, codes, sym, ap, rules}
use Rattle.std.proofs.lemmas.Slice.Eq.{text_from_reads}
use Rattle.chains.specs.Rule.{knows_chains}
use Rattle.chains.proofs.judge.ChainsReferee.knows.Goals as goal

pub returns-in-resolution : goal.returns-in-resolution
returns-in-resolution c = let e : c.args.rule.now ≡ codes "resolution" = search (rules, text_from_reads) in sym (ap knows_chains e)

pub returns-in-resolution-2 : goal.returns-in-resolution-2
returns-in-resolution-2 c = let e : c.args.rule.now ≡ codes "th_resolution" = text_from_reads _ _ (search rules) (search rules depth 20) in sym (ap knows_chains e)
