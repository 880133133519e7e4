use Rattle.std.proofs.Common.{◌∙◌, sym, ap}
use Rattle.std.specs.List.{list_all}
use Rattle.std.proofs.lemmas.Slice.Zip.{either_empty_from_Zip}
use Rattle.equality.specs.Rules.{settled}
use Rattle.equality.proofs.Pairs.{no_pairs}
use Rattle.equality.proofs.congruent.all_settled.Goals as goal

pub returns : goal.returns
returns c =
    let none = no_pairs c.loop-s.s-iterator.a.rest.now c.loop-s.s-iterator.b.rest.now (either_empty_from_Zip c.loop-s.s-iterator c.next.new.self c.next.result c.in-None.is c.next.ensures.steps) in
    sym (c.loop-s.invariant.2 ∙ ap (list_all (settled c.args.terms.now c.args.clause.now)) none)
