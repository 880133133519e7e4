-- Worked cases of `resolution` and `th_resolution`.
use Rattle.std.specs.Prelude.{ℕ, List, [], ◌∷◌, ℤ, pos, codes}
use Rattle.entries.specs.declared.entry.Literal.{Literal}
use Rattle.referee.specs.Cases.{Case}
use Rattle.referee.specs.Samples.{p, q, p_and_q, yes, not, ask}
use Rattle.referee.specs.declared.ruling.Ruling.{Ruling}
use Rattle.referee.specs.declared.ruling.Ruling.TheVariants.{Yes, Unmet, Arguments}

abbrev case : List ℕ → List Literal → List (List Literal) → List ℤ → Ruling → Case
case rule clause premises args ruling = record { question = ask rule clause premises args; ruling = ruling }

-- The clause {p, q}, and the others over these two terms.
abbrev p_or_q : List Literal
p_or_q = yes p ∷ yes q ∷ []

abbrev p_or_not_q : List Literal
p_or_not_q = yes p ∷ not q ∷ []

abbrev not_p_or_q : List Literal
not_p_or_q = not p ∷ yes q ∷ []

abbrev not_p_or_not_q : List Literal
not_p_or_not_q = not p ∷ not q ∷ []

abbrev pub cases : List Case
cases =
    -- {q} from {p, q} and {¬p, q}
    case (codes "resolution") (yes q ∷ []) (p_or_q ∷ not_p_or_q ∷ []) [] Yes ∷
    case (codes "th_resolution") (yes q ∷ []) (p_or_q ∷ not_p_or_q ∷ []) [] Yes ∷
    -- the other sign of q does not follow
    case (codes "resolution") (not q ∷ []) (p_or_q ∷ not_p_or_q ∷ []) [] Unmet ∷
    -- the four clauses cannot all be true, but no premise alone forces a literal
    case (codes "resolution") [] (p_or_q ∷ p_or_not_q ∷ not_p_or_q ∷ not_p_or_not_q ∷ []) [] Unmet ∷
    -- a chain that takes the premises in another order than they are given in
    case (codes "resolution") (yes p_and_q ∷ []) ((not q ∷ yes p_and_q ∷ []) ∷ not_p_or_q ∷ (yes p ∷ []) ∷ []) [] Yes ∷
    -- an empty premise
    case (codes "resolution") (yes q ∷ []) (p_or_q ∷ [] ∷ []) [] Yes ∷
    -- a clause that holds a literal and its complement follows from nothing, the empty clause does not
    case (codes "resolution") (yes p ∷ not p ∷ []) [] [] Yes ∷
    case (codes "resolution") [] [] [] Unmet ∷
    -- a repeated literal counts once
    case (codes "resolution") [] ((yes p ∷ yes p ∷ []) ∷ (not p ∷ []) ∷ []) [] Yes ∷
    -- no argument is taken, and other names are not known
    case (codes "resolution") (yes q ∷ []) (p_or_q ∷ not_p_or_q ∷ []) (pos 1 ∷ []) Arguments ∷
    case (codes "resolutions") (yes q ∷ []) (p_or_q ∷ not_p_or_q ∷ []) [] Unmet ∷
    []
