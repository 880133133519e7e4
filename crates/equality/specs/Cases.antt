-- Steps by the rules of equality, worked by the definitions.
use Rattle.entries.specs.declared.entry.Term.{Term}
use Rattle.std.specs.Prelude.{ℕ, List, [], ◌∷◌, ◌++◌, ℤ, pos, codes}
use Rattle.entries.specs.declared.entry.Head.TheVariants as head
use Rattle.entries.specs.declared.entry.Literal.{Literal}
use Rattle.entries.specs.declared.entry.Sort.TheVariants as sort
use Rattle.referee.specs.declared.ruling.Ruling.TheVariants.{Yes, Unmet, Arguments}
use Rattle.referee.specs.Cases.{Case}
use Rattle.referee.specs.Questions.{Asked}
use Rattle.referee.specs.Samples.{a, p, nought, p_and_q, a_is_b, b_is_c, a_is_c, b_is_a, f_a_is_f_b, yes, not}
use Rattle.referee.specs.Samples as sample

-- The equality of a term with itself.
abbrev pub own : ℕ → Term
own n = record { head = head.Equal; sort = sort.Bool; args = n ∷ n ∷ [] }

-- The terms of the cases: the samples, then a = a, 0 = 0, and (p and q) = (p and q).
abbrev pub terms : List Term
terms = ((sample.terms ++ own a ∷ []) ++ own nought ∷ []) ++ own p_and_q ∷ []

-- The number of each term that the samples lack.
abbrev pub a_is_a : ℕ
a_is_a = 22

abbrev pub zero_is_zero : ℕ
zero_is_zero = 23

abbrev pub and_is_and : ℕ
and_is_and = 24

-- A question over these terms.
abbrev ask : List ℕ → List Literal → List (List Literal) → List ℤ → Asked
ask rule clause premises args = record { terms = terms; rule = rule; clause = clause; premises = premises; args = args }

-- The cases of `eq_reflexive` and `refl`.
abbrev reflexives : List Case
reflexives =
    -- a = a
    record { question = ask (codes "eq_reflexive") (yes a_is_a ∷ []) [] []; ruling = Yes } ∷
    record { question = ask (codes "refl") (yes a_is_a ∷ []) [] []; ruling = Yes } ∷
    record { question = ask (codes "refl") (yes zero_is_zero ∷ []) [] []; ruling = Yes } ∷
    -- as a set it is one literal
    record { question = ask (codes "refl") (yes a_is_a ∷ yes a_is_a ∷ []) [] []; ruling = Yes } ∷
    -- ¬(a = a); a = b; a = a with a premise
    record { question = ask (codes "refl") (not a_is_a ∷ []) [] []; ruling = Unmet } ∷
    record { question = ask (codes "refl") (yes a_is_b ∷ []) [] []; ruling = Unmet } ∷
    record { question = ask (codes "refl") (yes a_is_a ∷ []) ((yes a_is_b ∷ []) ∷ []) []; ruling = Unmet } ∷
    []

-- The cases of `eq_transitive`.
abbrev transitives : List Case
transitives =
    -- ¬(a = b), ¬(b = c), a = c
    record { question = ask (codes "eq_transitive") (not a_is_b ∷ not b_is_c ∷ yes a_is_c ∷ []) [] []; ruling = Yes } ∷
    -- the first turned round, ¬(b = a)
    record { question = ask (codes "eq_transitive") (not b_is_a ∷ not b_is_c ∷ yes a_is_c ∷ []) [] []; ruling = Unmet } ∷
    -- another order
    record { question = ask (codes "eq_transitive") (not b_is_c ∷ not a_is_b ∷ yes a_is_c ∷ []) [] []; ruling = Unmet } ∷
    record { question = ask (codes "eq_transitive") (yes a_is_c ∷ not a_is_b ∷ not b_is_c ∷ []) [] []; ruling = Unmet } ∷
    -- a chain that ends elsewhere; a link that is not negated; no link
    record { question = ask (codes "eq_transitive") (not a_is_b ∷ yes a_is_c ∷ []) [] []; ruling = Unmet } ∷
    record { question = ask (codes "eq_transitive") (yes a_is_b ∷ not b_is_c ∷ yes a_is_c ∷ []) [] []; ruling = Unmet } ∷
    record { question = ask (codes "eq_transitive") (yes a_is_a ∷ []) [] []; ruling = Unmet } ∷
    -- an argument
    record { question = ask (codes "eq_transitive") (not a_is_b ∷ not b_is_c ∷ yes a_is_c ∷ []) [] (pos 1 ∷ []); ruling = Arguments } ∷
    []

-- The cases of `eq_congruent`.
abbrev congruents : List Case
congruents =
    -- ¬(a = b), f(a) = f(b)
    record { question = ask (codes "eq_congruent") (not a_is_b ∷ yes f_a_is_f_b ∷ []) [] []; ruling = Yes } ∷
    -- a pair with no literal; the pair turned round; a literal of no pair; a literal that is not negated
    record { question = ask (codes "eq_congruent") (yes f_a_is_f_b ∷ []) [] []; ruling = Unmet } ∷
    record { question = ask (codes "eq_congruent") (not b_is_a ∷ yes f_a_is_f_b ∷ []) [] []; ruling = Unmet } ∷
    record { question = ask (codes "eq_congruent") (not a_is_b ∷ not b_is_c ∷ yes f_a_is_f_b ∷ []) [] []; ruling = Unmet } ∷
    record { question = ask (codes "eq_congruent") (yes a_is_b ∷ yes f_a_is_f_b ∷ []) [] []; ruling = Unmet } ∷
    -- two names; a name with no arguments
    record { question = ask (codes "eq_congruent") (yes a_is_b ∷ []) [] []; ruling = Unmet } ∷
    record { question = ask (codes "eq_congruent") (yes a_is_a ∷ []) [] []; ruling = Yes } ∷
    -- an operator
    record { question = ask (codes "eq_congruent") (yes and_is_and ∷ []) [] []; ruling = Unmet } ∷
    []

-- The cases of `trans`.
abbrev joined : List Case
joined =
    -- from a = b and b = c: a = c
    record { question = ask (codes "trans") (yes a_is_c ∷ []) ((yes a_is_b ∷ []) ∷ (yes b_is_c ∷ []) ∷ []) []; ruling = Yes } ∷
    -- the premises in the other order; one of them; one turned round
    record { question = ask (codes "trans") (yes a_is_c ∷ []) ((yes b_is_c ∷ []) ∷ (yes a_is_b ∷ []) ∷ []) []; ruling = Unmet } ∷
    record { question = ask (codes "trans") (yes a_is_c ∷ []) ((yes a_is_b ∷ []) ∷ []) []; ruling = Unmet } ∷
    record { question = ask (codes "trans") (yes a_is_c ∷ []) ((yes b_is_a ∷ []) ∷ (yes b_is_c ∷ []) ∷ []) []; ruling = Unmet } ∷
    record { question = ask (codes "trans") (yes a_is_c ∷ []) ((yes a_is_b ∷ []) ∷ (yes b_is_c ∷ []) ∷ []) (pos 0 ∷ []); ruling = Arguments } ∷
    []

-- The cases of `cong`.
abbrev applied : List Case
applied =
    -- from a = b: f(a) = f(b); a premise more
    record { question = ask (codes "cong") (yes f_a_is_f_b ∷ []) ((yes a_is_b ∷ []) ∷ []) []; ruling = Yes } ∷
    record { question = ask (codes "cong") (yes f_a_is_f_b ∷ []) ((yes b_is_c ∷ []) ∷ (yes a_is_b ∷ []) ∷ []) []; ruling = Yes } ∷
    -- from b = a; from nothing; with a premise that is no equality, or a negated one
    record { question = ask (codes "cong") (yes f_a_is_f_b ∷ []) ((yes b_is_a ∷ []) ∷ []) []; ruling = Unmet } ∷
    record { question = ask (codes "cong") (yes f_a_is_f_b ∷ []) [] []; ruling = Unmet } ∷
    record { question = ask (codes "cong") (yes f_a_is_f_b ∷ []) ((yes a_is_b ∷ []) ∷ (yes p ∷ []) ∷ []) []; ruling = Unmet } ∷
    record { question = ask (codes "cong") (yes f_a_is_f_b ∷ []) ((yes a_is_b ∷ []) ∷ (not b_is_c ∷ []) ∷ []) []; ruling = Unmet } ∷
    -- two names; one name with no arguments, from no premise
    record { question = ask (codes "cong") (yes a_is_b ∷ []) ((yes a_is_b ∷ []) ∷ []) []; ruling = Unmet } ∷
    record { question = ask (codes "cong") (yes a_is_a ∷ []) [] []; ruling = Yes } ∷
    -- an operator; a numeral
    record { question = ask (codes "cong") (yes and_is_and ∷ []) [] []; ruling = Yes } ∷
    record { question = ask (codes "cong") (yes zero_is_zero ∷ []) [] []; ruling = Unmet } ∷
    []

-- A name that is no rule of equality is not met, arguments or not.
abbrev unknown : List Case
unknown =
    record { question = ask (codes "eq_symmetric") (yes a_is_a ∷ []) [] []; ruling = Unmet } ∷
    record { question = ask (codes "eq_symmetric") (yes a_is_a ∷ []) [] (pos 1 ∷ []); ruling = Unmet } ∷
    []

-- All of them.
abbrev pub cases : List Case
cases = reflexives ++ transitives ++ congruents ++ joined ++ applied ++ unknown
