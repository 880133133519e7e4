-- A pair of referees keeps what both keep.
use Rattle.std.proofs.Common.{⊎_elim, sym, ◌∙◌}
use Rattle.std.proofs.lemmas.Bool.{cases_Bool, cond-true, cond-false, or_parts}
use Rattle.referee.specs.Meaning.{Meaning, Lawful, Modest, pair, nothing, PairsKeep}

pub pairs_keep : PairsKeep
pairs_keep l r left right names q proper posed agreed =
    ⊎_elim
    (λ e. left names q proper posed (sym (cond-true (l.knows q.rule) _ _ e) ∙ agreed))
    (λ e. right names q proper posed (sym (cond-false (l.knows q.rule) _ _ e) ∙ agreed))
    (cases_Bool (l.knows q.rule))

pub pairs_modest : (l r : Meaning) → Modest l → Modest r → Modest (pair l r)
pairs_modest l r left right q unknown =
    let both = or_parts (l.knows q.rule) (r.knows q.rule) unknown in
    cond-false (l.knows q.rule) _ _ both.0 ∙ right q both.1

-- What never says yes keeps the law.
pub nothing_keeps : Lawful nothing
nothing_keeps names q proper posed agreed = absurd (cc)
