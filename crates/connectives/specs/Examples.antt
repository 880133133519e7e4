-- A step that keeps its rule, for each rule of the table.
use Rattle.std.specs.Prelude.{ℕ, List, [], ◌∷◌, codes}
use Rattle.entries.specs.declared.entry.Term.{Term}
use Prim.Native.String.{String}
use Rattle.entries.specs.declared.entry.Head.{Head}
use Rattle.entries.specs.declared.entry.Head.TheVariants as head
use Rattle.entries.specs.declared.entry.Literal.{Literal}
use Rattle.entries.specs.declared.entry.Sort.TheVariants as sort
use Rattle.referee.specs.declared.ruling.Ruling.TheVariants.{Yes}
use Rattle.referee.specs.Cases.{Case}
use Rattle.referee.specs.Samples.{yes, not}

-- A Bool term.
abbrev bool : Head → List ℕ → Term
bool h args = record { head = h; sort = sort.Bool; args = args }

-- p, q, true, false, (and p q), (or p q), (=> p q), (= p q), (not p), (or (not p) q).
abbrev pub terms : List Term
terms =
    bool (head.Declared 0) [] ∷
    bool (head.Declared 1) [] ∷
    bool head.True [] ∷
    bool head.False [] ∷
    bool head.And (0 ∷ 1 ∷ []) ∷
    bool head.Or (0 ∷ 1 ∷ []) ∷
    bool head.Implies (0 ∷ 1 ∷ []) ∷
    bool head.Equal (0 ∷ 1 ∷ []) ∷
    bool head.Not (0 ∷ []) ∷
    bool head.Or (8 ∷ 1 ∷ []) ∷
    []

-- The number of each of them but `(not p)`, which no literal has.
abbrev p : ℕ
p = 0

abbrev q : ℕ
q = 1

abbrev truth : ℕ
truth = 2

abbrev falsehood : ℕ
falsehood = 3

abbrev both : ℕ
both = 4

abbrev either : ℕ
either = 5

abbrev if_p_q : ℕ
if_p_q = 6

abbrev p_is_q : ℕ
p_is_q = 7

abbrev not_p_or_q : ℕ
not_p_or_q = 9

-- A step that gets a yes: its rule, its clause, and its premises' clauses.
abbrev step : String → List Literal → List (List Literal) → Case
step rule clause premises = record { question = record { terms = terms; rule = codes rule; clause = clause; premises = premises; args = [] }; ruling = Yes }

-- One step for each rule, and two in which an argument's literal is a complement.
abbrev pub examples : List Case
examples =
    step "true" (yes truth ∷ []) [] ∷
    step "false" (not falsehood ∷ []) [] ∷
    step "not_not" (not p ∷ yes p ∷ []) [] ∷
    step "and_pos" (not both ∷ yes q ∷ []) [] ∷
    step "and_neg" (yes both ∷ not p ∷ not q ∷ []) [] ∷
    step "or_pos" (not either ∷ yes p ∷ yes q ∷ []) [] ∷
    step "or_neg" (yes either ∷ not p ∷ []) [] ∷
    step "implies_pos" (not if_p_q ∷ not p ∷ yes q ∷ []) [] ∷
    step "implies_neg1" (yes if_p_q ∷ yes p ∷ []) [] ∷
    step "implies_neg2" (yes if_p_q ∷ not q ∷ []) [] ∷
    step "equiv_pos1" (not p_is_q ∷ yes p ∷ not q ∷ []) [] ∷
    step "equiv_pos2" (not p_is_q ∷ not p ∷ yes q ∷ []) [] ∷
    step "equiv_neg1" (yes p_is_q ∷ not p ∷ not q ∷ []) [] ∷
    step "equiv_neg2" (yes p_is_q ∷ yes p ∷ yes q ∷ []) [] ∷
    step "and" (yes q ∷ []) ((yes both ∷ []) ∷ []) ∷
    step "or" (yes p ∷ yes q ∷ []) ((yes either ∷ []) ∷ []) ∷
    step "implies" (not p ∷ yes q ∷ []) ((yes if_p_q ∷ []) ∷ []) ∷
    step "equiv1" (not p ∷ yes q ∷ []) ((yes p_is_q ∷ []) ∷ []) ∷
    step "equiv2" (yes p ∷ not q ∷ []) ((yes p_is_q ∷ []) ∷ []) ∷
    step "not_or" (not q ∷ []) ((not either ∷ []) ∷ []) ∷
    step "not_and" (not p ∷ not q ∷ []) ((not both ∷ []) ∷ []) ∷
    step "not_implies1" (yes p ∷ []) ((not if_p_q ∷ []) ∷ []) ∷
    step "not_implies2" (not q ∷ []) ((not if_p_q ∷ []) ∷ []) ∷
    step "not_equiv1" (yes p ∷ yes q ∷ []) ((not p_is_q ∷ []) ∷ []) ∷
    step "not_equiv2" (not p ∷ not q ∷ []) ((not p_is_q ∷ []) ∷ []) ∷
    step "or" (not p ∷ yes q ∷ []) ((yes not_p_or_q ∷ []) ∷ []) ∷
    step "not_or" (yes p ∷ []) ((not not_p_or_q ∷ []) ∷ []) ∷
    []
