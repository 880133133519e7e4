-- What a declaration makes, from the text that it is.
use Rattle.entries.specs.declared.entry.Name.{Name}
use Rattle.std.proofs.Common.{◌≡◌, ℕ, List, [], ◌∷◌, take, Some, None, Ok, Err, codes, Option, Result, sym, ap, ◌∙◌, arith}
use Rattle.entries.specs.declared.entry.Sort.{Sort}
use Rattle.forms.specs.Forms.{Named, DeclareFun, word}
use Rattle.forms.specs.Parsed.{function}
use Rattle.forms.specs.Trees.{spells}
use Rattle.text.specs.Reading.{Next}
use Rattle.text.specs.Tokens.{Tok, opens, closes, symbol, fault, tokens_from}
use Rattle.text.specs.declared.token.Token.{Token}
use Rattle.text.specs.declared.token.TokenFault.{TokenFault}
use Rattle.text.proofs.Places.{off}
use Rattle.declarations.specs.Signatures.{◌then◌, sort_of, sorts_of, signature}
use Rattle.declarations.specs.Calls.{Declaration, IsListed}
use Rattle.declarations.specs.Known.{kept}
use Rattle.declarations.specs.declared.fault.TermFault.{TermFault}
use Rattle.declarations.proofs.Resuming.{resumes}

-- what follows the first token
after_first : (was : List Tok) (r : Result (Option Token) TokenFault) (after : List Tok) (at : ℕ) (rest : List Tok) → Next was r after → was ≡ opens at ∷ rest → after ≡ rest
after_first was (Ok None) after at rest next e = off (let none : was ≡ [] = next.0 in cc)
after_first was (Ok (Some t)) after at rest next e = cc
after_first was (Err f) after at rest next e = off (let first : fault f ∷ [] ≡ opens at ∷ [] = sym next.0 ∙ ap (take 1) e in cc)

module _ (text : List ℕ) (n : Named) (takes : ℕ) (g : Named) (t : DeclareFun) (d : Declaration text (function n takes g) t) where
  pub same_name : n ≡ t.function
  same_name = let is = d.same in cc

  pub same_gives : g ≡ t.gives
  same_gives = let is = d.same in cc

  pub inside : (was after : List Tok) (r : Result (Option Token) TokenFault) → was ≡ tokens_from text takes → Next was r after →
      after ≡ spells t.takes (closes t.right ∷ word t.gives ∷ closes t.end ∷ [])
  inside was after r is next =
      let place : takes ≡ t.at = (let Kept-same = d.same in cc) in
      after_first was r after t.at _ next
      (is ∙ ap (tokens_from text) place
      ∙ resumes text (opens d.at ∷ symbol d.head (codes "declare-fun") ∷ word t.function ∷ []) 0 (opens t.at) _ d.spelt)

  pub listed : (was after : List Tok) (r : Result (Option Token) TokenFault) → was ≡ tokens_from text takes → Next was r after → IsListed after
  listed was after r is next = (
    _,
    record {
      trees = t.takes;
      end = t.right;
      enough = omega arith;
      few = d.fit.0;
      fits = d.fit.1;
      spelt = inside was after r is next;
    },
  )

module _ (sorts : List (List ℕ)) (t : DeclareFun) where
  abbrev made_of : List Sort → Result Sort TermFault → Result Name TermFault
  made_of takes r = r then λ gives. Ok (record { word = kept t.function.bytes; takes = takes; gives = gives })

  pub takes_unknown : (f : TermFault) → Err f ≡ sorts_of sorts t.takes → Err f ≡ signature sorts t
  takes_unknown f e = ap (λ (r : Result (List Sort) TermFault). r then λ takes. made_of takes (sort_of sorts t.gives)) e

  module _ (takes : List Sort) (found : Ok takes ≡ sorts_of sorts t.takes) (g : Named) (is : g ≡ t.gives) where
    signed : made_of takes (sort_of sorts g) ≡ signature sorts t
    signed =
        ap (λ h. made_of takes (sort_of sorts h)) is
        ∙ ap (λ (r : Result (List Sort) TermFault). r then λ ss. made_of ss (sort_of sorts t.gives)) found

    pub gives_unknown : (f : TermFault) → Err f ≡ sort_of sorts g → Err f ≡ signature sorts t
    gives_unknown f e = ap (made_of takes) e ∙ signed

    pub makes : (s : Sort) → Ok s ≡ sort_of sorts g → (n : Named) → n ≡ t.function → (w : List ℕ) → w ≡ kept n.bytes → Ok (record { word = w; takes = takes; gives = s }) ≡ signature sorts t
    makes s e n named w kept_is =
        let worded : w ≡ kept t.function.bytes = kept_is ∙ ap (λ (m : Named). kept m.bytes) named in
        (λ i. Ok (record { word = worded i; takes = takes; gives = s })) ∙ ap (made_of takes) e ∙ signed
