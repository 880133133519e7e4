-- The literal of a clause that, as a set, has one: its first.
use Rattle.std.proofs.Common.{◌≡◌, true, cond, List, [], ◌∷◌, Some, None, sym, ap, ◌∙◌}
use Rattle.std.specs.List.{list_all, slice_get}
use Rattle.entries.specs.declared.entry.Literal.{Literal}
use Rattle.entries.specs.Equality.{same_literal}
use Rattle.equality.specs.Sides.{only_of}

pub only_first : (c : List Literal) (first : Literal) → slice_get c 0 ≡ Some first → list_all (same_literal first) c ≡ true → Some first ≡ only_of c
only_first [] first e t = absurd (cc)
only_first (l ∷ ls) first e t =
    let same : first ≡ l = cc in
    let all : list_all (same_literal l) (l ∷ ls) ≡ true = ap (λ k. list_all (same_literal k) (l ∷ ls)) (sym same) ∙ t in
    ap Some same ∙ sym (ap (λ b. cond b (Some l) None) all)
