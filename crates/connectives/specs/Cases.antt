-- Cases of the connectives' rules that are worked by the definitions alone.
use Rattle.std.specs.Prelude.{List, [], ◌∷◌, pos, codes}
use Rattle.referee.specs.declared.ruling.Ruling.TheVariants.{Yes, Unmet, Arguments}
use Rattle.referee.specs.Cases.{Case}
use Rattle.referee.specs.Samples.{p, q, p_and_q, a, b, a_is_b, yes, not, ask}

-- `(and p q)` and its arguments, with and without a premise; `=` on Int is no connective; an unknown name.
abbrev pub cases : List Case
cases =
    record { question = ask (codes "and_pos") (not p_and_q ∷ yes p ∷ []) [] []; ruling = Yes } ∷
    record { question = ask (codes "and_pos") (yes q ∷ not p_and_q ∷ []) [] []; ruling = Yes } ∷
    record { question = ask (codes "and_pos") (not p_and_q ∷ []) [] []; ruling = Unmet } ∷
    record { question = ask (codes "and_pos") (not p_and_q ∷ not p ∷ []) [] []; ruling = Unmet } ∷
    record { question = ask (codes "and_pos") (not p_and_q ∷ yes p ∷ yes q ∷ []) [] []; ruling = Unmet } ∷
    record { question = ask (codes "and_pos") (not p_and_q ∷ yes p ∷ []) [] (pos 1 ∷ []); ruling = Arguments } ∷
    record { question = ask (codes "and_pos") (not p_and_q ∷ yes p ∷ []) ((yes p_and_q ∷ []) ∷ []) []; ruling = Unmet } ∷
    record { question = ask (codes "and_neg") (yes p_and_q ∷ not p ∷ not q ∷ []) [] []; ruling = Yes } ∷
    record { question = ask (codes "and") (yes q ∷ []) ((yes p_and_q ∷ []) ∷ []) []; ruling = Yes } ∷
    record { question = ask (codes "and") (yes q ∷ []) [] []; ruling = Unmet } ∷
    record { question = ask (codes "and") (yes q ∷ []) ((yes p_and_q ∷ yes p ∷ []) ∷ []) []; ruling = Unmet } ∷
    record { question = ask (codes "not_and") (not p ∷ not q ∷ []) ((not p_and_q ∷ []) ∷ []) []; ruling = Yes } ∷
    record { question = ask (codes "not_and") (not p ∷ not q ∷ []) ((yes p_and_q ∷ []) ∷ []) []; ruling = Unmet } ∷
    record { question = ask (codes "not_not") (not a_is_b ∷ yes a_is_b ∷ []) [] []; ruling = Yes } ∷
    record { question = ask (codes "equiv_pos1") (not a_is_b ∷ yes a ∷ not b ∷ []) [] []; ruling = Unmet } ∷
    record { question = ask (codes "xor_pos") (not p_and_q ∷ yes p ∷ []) [] (pos 1 ∷ []); ruling = Unmet } ∷
    []
