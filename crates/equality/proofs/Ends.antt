-- A clause that is some literals and then, last, one more: what the tests take from it.
use Rattle.std.proofs.Common.{◌≡◌, ◌-◌, ◌<◌, false, cond, List, [], ◌∷◌, ◌++◌, length, get_or, take, None, sym, refl, ap, ◌∙◌, arith}
use Rattle.std.proofs.Math.Seq.{take-append_seam}
use Rattle.std.proofs.lemmas.Bool.{lt-ltb}
use Rattle.std.proofs.lemmas.List.{length_push, get_or_push}
use Rattle.entries.specs.declared.entry.Literal.{Literal}
use Rattle.entries.specs.declared.entry.Term.{Term}
use Rattle.meaning.specs.Truth.{positive}
use Rattle.equality.specs.Rules.{front, last_sides}
use Rattle.equality.specs.Sides.{equated}

module _ (c before : List Literal) (last : Literal) (e : c ≡ before ++ last ∷ []) where
  many : length c - 1 ≡ length before
  many = let n = length_push before last in let m = ap length e in omega arith

  some : 0 < length c
  some = let n = length_push before last in let m = ap length e in omega arith

  pub front_is : before ≡ front c
  front_is = sym (ap (λ n. take n c) many ∙ ap (take (length before)) e ∙ take-append_seam before (last ∷ []))

  last_is : get_or c (length c - 1) (positive 0) ≡ last
  last_is =
      ap (λ n. get_or c n (positive 0)) many
      ∙ ap (λ z. get_or z (length before) (positive 0)) e
      ∙ get_or_push before last (positive 0) (length before) refl

  pub last_sides_is : (terms : List Term) → equated terms false last ≡ last_sides terms c
  last_sides_is terms =
      sym (ap (λ b. cond b (equated terms false (get_or c (length c - 1) (positive 0))) None) (lt-ltb 0 (length c) some) ∙ ap (equated terms false) last_is)
