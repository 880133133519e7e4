use Rattle.meaning.proofs.Samples.{formed_nots}
use Rattle.meaning.proofs.tests.two_nots_cancel.Goals as goal

pub new-terms-requires : goal.new-terms-requires
new-terms-requires g c =
    formed_nots c.new-plain.result c.new-once.result c.new-twice.result c.new-plain.ensures c.new-once.ensures c.new-twice.ensures
