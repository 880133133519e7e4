use Rattle.std.proofs.Common.{◌<◌, length, subst}
use Rattle.std.proofs.ByRecursion.{All-get_or}
use Rattle.meaning.specs.Proper.{Formed}
use Rattle.meaning.specs.Truth.{literal_of}
use Rattle.meaning.proofs.Clauses.{written_more, written_all, clause_within, clause_truth_of}
use Rattle.meaning.proofs.terms.Terms.clause.Goals as goal

pub literal-requires : goal.literal-requires
literal-requires c = All-get_or (λ n. n < length c.args.self.now) c.args.written.now c.loop-n.n-index 0 c.loop-n-test.true c.requires.within

pub loop-n-preserved : goal.loop-n-preserved
loop-n-preserved c =
    written_more (literal_of c.args.self.now) c.args.written.now c.loop-n.n-index c.loop-n-test.true
    c.loop-n.clause c.push.new.self c.literal.result
    c.loop-n.invariant.0 c.loop-n.invariant.1 c.literal.ensures.literal c.push.ensures

pub returns : goal.returns
returns c =
    let ts = c.args.self.now in
    let formed = subst Formed c.self.view_is c.self.invariant in
    let ns = c.args.written.now in
    let is = written_all (literal_of ts) ns c.loop-n.n-index c.loop-n-test.false c.loop-n.clause c.loop-n.invariant.1 in
    record {
      literals = is;
      within = clause_within ts ns c.loop-n.clause formed c.requires.within is;
      truth = clause_truth_of ts ns c.loop-n.clause formed c.requires.within is;
    }
