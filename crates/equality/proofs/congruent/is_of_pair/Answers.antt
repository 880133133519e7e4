use Rattle.std.proofs.Common.{◌∙◌, sym, ap}
use Rattle.std.specs.List.{list_any}
use Rattle.std.proofs.lemmas.Slice.Zip.{either_empty_from_Zip}
use Rattle.equality.specs.Rules.{negates}
use Rattle.equality.proofs.Pairs.{no_pairs}
use Rattle.equality.proofs.congruent.is_of_pair.Goals as goal

pub returns : goal.returns
returns c =
    let none = no_pairs c.loop-s.s-iterator.a.rest.now c.loop-s.s-iterator.b.rest.now (either_empty_from_Zip c.loop-s.s-iterator c.next.new.self c.next.result c.in-None.is c.next.ensures.steps) in
    sym (c.loop-s.invariant.2 ∙ ap (list_any (λ p. negates c.args.terms.now p c.args.literal)) none)
