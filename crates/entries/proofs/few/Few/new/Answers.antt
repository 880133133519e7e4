use Rattle.std.proofs.Common.{◌≤◌, ◌++◌, drop, replicate, ◌∙◌, subst, arith}
use Rattle.std.proofs.lemmas.List.{length-replicate, length-take-le}
use Rattle.entries.specs.Few.{Padded}
use Rattle.entries.proofs.Padding.{padded_front}
use Rattle.entries.proofs.few.Few.new.Goals as goal

pub invariant_of-result : goal.invariant_of-result
invariant_of-result g c =
    let n = g.row.N in
    let len = c.min-len.result in
    let places = replicate n c.blank-places.result in
    let all = length-replicate n c.blank-places.result in
    let is = c.min-len.ensures in
    let few : len ≤ n = omega arith in
    let front = c.copy_from_slice.ensures.len ∙ length-take-le len places (omega arith) in
    subst (λ b. Padded n b len (c.copy_from_slice.new.self ++ drop len places)) c.blank-places.ensures
    (padded_front n c.blank-places.result len c.copy_from_slice.new.self few front)
