-- The sorts of a list, read from the left.
use Rattle.std.proofs.Common.{◌≡◌, ℕ, ◌+◌, ◌≤◌, List, [], ◌∷◌, ◌++◌, Ok, Err, Result, sym, refl, ap, ◌∙◌, arith}
use Rattle.std.proofs.lemmas.List.{append-nil, append_assoc}
use Rattle.entries.specs.declared.entry.Sort.{Sort}
use Rattle.forms.specs.Trees.{name, number, call, Trees, none, more, count, spells, Fits}
use Rattle.forms.specs.declared.item.Item.TheVariants.{Symbol}
use Rattle.text.specs.Tokens.{Tok, closes, symbol}
use Rattle.text.proofs.Places.{off}
use Rattle.declarations.specs.Signatures.{◌then◌, sort_of, sorts_of}
use Rattle.declarations.specs.declared.fault.TermFault.{TermFault}

-- sorts that were found before others
abbrev pub before : List Sort → Result (List Sort) TermFault → Result (List Sort) TermFault
before sofar (Ok ss) = Ok (sofar ++ ss)
before sofar (Err f) = Err f

before_none : (r : Result (List Sort) TermFault) → r ≡ before [] r
before_none (Ok ss) = refl
before_none (Err f) = refl

before_more : (sofar : List Sort) (s : Sort) (r : Result (List Sort) TermFault) → before sofar (r then λ ss. Ok (s ∷ ss)) ≡ before (sofar ++ s ∷ []) r
before_more sofar s (Ok ss) = ap Ok (sym (append_assoc sofar (s ∷ []) ss))
before_more sofar s (Err f) = refl

-- what is left of a list once n items are read: it gives the same sorts after those that were found
pub record Left (sorts : List (List ℕ)) (ts : Trees) (tail : List Tok) (n : ℕ) (sofar : List Sort) (tokens : List Tok) : Type 0 where
  pub others : Trees
  pub counts : count ts ≡ n + count others
  pub fits : Fits Symbol others
  pub spelt : tokens ≡ spells others tail
  pub same : sorts_of sorts ts ≡ before sofar (sorts_of sorts others)

pub begun : (sorts : List (List ℕ)) (ts : Trees) (tail tokens : List Tok) → Fits Symbol ts → tokens ≡ spells ts tail → Left sorts ts tail 0 [] tokens
begun sorts ts tail tokens f e = record { others = ts; counts = omega arith; fits = f; spelt = e; same = before_none (sorts_of sorts ts) }

-- the word that comes first is the first item of what is left
record FirstNamed (at : ℕ) (bytes : List ℕ) (after : List Tok) (os : Trees) (tail : List Tok) : Type 0 where
  us : Trees
  first : os ≡ more (name at bytes) us
  rest : after ≡ spells us tail
  fit : Fits Symbol us

first_named : (at : ℕ) (bytes : List ℕ) (after : List Tok) (os : Trees) (end : ℕ) (rest : List Tok) → symbol at bytes ∷ after ≡ spells os (closes end ∷ rest) → Fits Symbol os → FirstNamed at bytes after os (closes end ∷ rest)
first_named at bytes after none end rest e f = off (cc)
first_named at bytes after (more (name a w) os) end rest e f = record { us = os; first = cc; rest = cc; fit = f.1 }
first_named at bytes after (more (number a v) os) end rest e f = absurd f.0
first_named at bytes after (more (call a h w ts z) os) end rest e f = absurd f.0

module _ (sorts : List (List ℕ)) (ts : Trees) (end : ℕ) (rest : List Tok) (n : ℕ) (sofar : List Sort) (tokens : List Tok) (h : Left sorts ts (closes end ∷ rest) n sofar tokens) where
  all_read : (os : Trees) → sorts_of sorts ts ≡ before sofar (sorts_of sorts os) → os ≡ none → Ok sofar ≡ sorts_of sorts ts
  all_read os is empty = sym (is ∙ ap (λ o. before sofar (sorts_of sorts o)) empty ∙ ap Ok (append-nil sofar))

  -- no word comes first
  pub ended : ((at : ℕ) (bytes : List ℕ) (after : List Tok) → tokens ≡ symbol at bytes ∷ after → ⊥) → Ok sofar ≡ sorts_of sorts ts
  ended no_word = all_read h.others h.same (empty h.others h.fits h.spelt)
    where
      empty : (os : Trees) → Fits Symbol os → tokens ≡ spells os (closes end ∷ rest) → os ≡ none
      empty none f e = refl
      empty (more (name a w) os) f e = absurd (no_word a w _ e)
      empty (more (number a v) os) f e = absurd f.0
      empty (more (call a g w us z) os) f e = absurd f.0

  -- no more items may come
  pub filled : count ts ≤ n → Ok sofar ≡ sorts_of sorts ts
  filled le = all_read h.others h.same (empty h.others h.counts)
    where
      empty : (os : Trees) → count ts ≡ n + count os → os ≡ none
      empty none e = refl
      empty (more o os) e = absurd (omega arith)

  -- a word comes first
  module _ (at : ℕ) (bytes : List ℕ) (after : List Tok) (is : tokens ≡ symbol at bytes ∷ after) where
    next : FirstNamed at bytes after h.others (closes end ∷ rest)
    next = first_named at bytes after h.others end rest (sym is ∙ h.spelt) h.fits

    named : sorts_of sorts ts ≡ before sofar (sort_of sorts (record { at = at; bytes = bytes }) then λ s. sorts_of sorts next.us then λ ss. Ok (s ∷ ss))
    named = h.same ∙ ap (λ o. before sofar (sorts_of sorts o)) next.first

    found : (r : Result Sort TermFault) → r ≡ sort_of sorts (record { at = at; bytes = bytes }) → sorts_of sorts ts ≡ before sofar (r then λ s. sorts_of sorts next.us then λ ss. Ok (s ∷ ss))
    found r e = named ∙ ap (λ (x : Result Sort TermFault). before sofar (x then λ s. sorts_of sorts next.us then λ ss. Ok (s ∷ ss))) (sym e)

    pub unknown : (f : TermFault) → Err f ≡ sort_of sorts (record { at = at; bytes = bytes }) → Err f ≡ sorts_of sorts ts
    unknown f e = sym (found (Err f) e)

    pub onward : (s : Sort) → Ok s ≡ sort_of sorts (record { at = at; bytes = bytes }) → Left sorts ts (closes end ∷ rest) (n + 1) (sofar ++ s ∷ []) after
    onward s e =
        let one : count h.others ≡ 1 + count next.us = ap count next.first in
        record {
          others = next.us;
          counts = omega (arith, h.counts);
          fits = next.fit;
          spelt = next.rest;
          same = found (Ok s) e ∙ before_more sofar s (sorts_of sorts next.us);
        }
