-- A small proper list: `true`, a `not` of it, and a `not` of that.
use Rattle.std.proofs.Common.{◌≡◌, ℕ, [], ◌∷◌, refl, subst, arith}
use Rattle.entries.specs.declared.entry.Head.TheVariants as head
use Rattle.entries.specs.declared.entry.Sort.TheVariants as sort
use Rattle.entries.specs.declared.entry.Term.{Term}
use Rattle.meaning.specs.Proper.{Proper, Formed}
use Rattle.meaning.proofs.Propers.{proper_none, proper_push}

abbrev pub plain : Term
plain = record { head = head.True; sort = sort.Bool; args = [] }

abbrev pub not_of : ℕ → Term
not_of n = record { head = head.Not; sort = sort.Bool; args = n ∷ [] }

proper_nots : Proper [] (plain ∷ not_of 0 ∷ not_of 1 ∷ [])
proper_nots =
    proper_push [] (plain ∷ not_of 0 ∷ []) (not_of 1)
    (proper_push [] (plain ∷ []) (not_of 0)
    (proper_push [] [] plain (proper_none []) (record { before = tt; few = omega arith; formed = refl; given = refl }))
    (record { before = (omega arith, tt); few = omega arith; formed = refl; given = refl }))
    (record { before = (omega arith, tt); few = omega arith; formed = refl; given = refl })

pub formed_nots : (a b c : Term) → a ≡ plain → b ≡ not_of 0 → c ≡ not_of 1 → Formed (a ∷ b ∷ c ∷ [])
formed_nots a b c p q r =
    let e : plain ∷ not_of 0 ∷ not_of 1 ∷ [] ≡ (a ∷ b ∷ c ∷ []) = cc in
    subst Formed e ([], proper_nots)
