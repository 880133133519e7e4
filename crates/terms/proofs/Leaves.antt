-- Terms of one token.
use Rattle.entries.specs.declared.entry.Name.{Name}
use Rattle.entries.specs.declared.entry.Term.{Term}
use Rattle.std.proofs.Common.{◌≡◌, ℕ, Bool, List, [], ◌∷◌, Some, None, Ok, Err, Option, Result, sym, refl, ap, ◌∙◌, subst, Bor}
use Rattle.std.specs.Option.{ok_or}
use Rattle.text.specs.Tokens.{Tok, seen}
use Rattle.text.specs.declared.token.Token.{Token}
use Rattle.text.specs.declared.token.Token.TheVariants as token
use Rattle.forms.specs.Trees.{Tree, name, number, spell}
use Rattle.forms.proofs.Spelling.{off, not_close, not_keyword}
use Rattle.entries.specs.declared.entry.Head.{Head}
use Rattle.entries.specs.declared.entry.Head.TheVariants as head
use Rattle.declarations.specs.declared.fault.TermFault.{TermFault}
use Rattle.declarations.specs.declared.fault.TermFault.TheVariants.{Unknown}
use Rattle.terms.specs.Reads.{Out, fails, gives, head_named, made, known}
use Rattle.text.specs.declared.reader.Reader.{Reader}
use Rattle.terms.specs.Reading.{Told, failed, got, told, Follows, Begins, ReadsTree}
use Rattle.terms.specs.State.{Does}
use Rattle.terms.proofs.Midway.{by_tree}

-- a look-up that had to find a head
pub missing : (o : Option Head) (x f : TermFault) → Err f ≡ ok_or o x → (None ≡ o) × (x ≡ f)
missing None x f e = (refl, cc)
missing (Some k) x f e = off cc

pub there : (o : Option Head) (x : TermFault) (k : Head) → Ok k ≡ ok_or o x → Some k ≡ o
there None x k e = off cc
there (Some h) x k e = cc

-- what was done at one term is what follows
abbrev pub said : Result ℕ TermFault → List Tok → Told
said (Ok n) rest = got n rest
said (Err f) rest = failed f

pub does_follows : (o : Out) (r : Result ℕ TermFault) (new : List Term) (rest : List Tok) → Does o r new → Follows o (said r rest) new rest
does_follows (fails f) r new rest h = ap (λ q. said q rest) h
does_follows (gives n terms) r new rest h = (ap (λ q. said q rest) h.0, h.1)

module _ (names : List Name) (most : ℕ) (wants : Bool) (old : List Term) (k : Token) (after : List Tok) where
  -- a symbol alone
  module _ (at : ℕ) (w : Bor (List ℕ)) (is : k ≡ token.Symbol at w) (o : Option Head) (e : o ≡ head_named names w.now) where
    symbol_read : (answer : Told) (new : List Term) → Follows (known names most wants at at o [] old) answer new after → ReadsTree names most wants (seen k ∷ after) old answer new
    symbol_read answer new f =
        by_tree names most wants _ old answer new (name at w.now) after (ap (λ j. seen j ∷ after) is)
        (subst (λ q. Follows (known names most wants at at q [] old) answer new after) e f)

    pub symbol_unknown : (f : TermFault) → Err f ≡ ok_or o (Unknown at) → ReadsTree names most wants (seen k ∷ after) old (failed f) old
    symbol_unknown f m =
        let h = missing o (Unknown at) f m in
        symbol_read (failed f) old (subst (λ q. Follows (known names most wants at at q [] old) (failed f) old after) h.0 (ap failed (sym h.1)))

    pub symbol_placed : (h : Head) → Ok h ≡ ok_or o (Unknown at) → (r : Result ℕ TermFault) (new : List Term) → Does (made names most wants at h [] old) r new → ReadsTree names most wants (seen k ∷ after) old (said r after) new
    symbol_placed h m r new d =
        symbol_read (said r after) new
        (subst (λ q. Follows (known names most wants at at q [] old) (said r after) new after) (there o (Unknown at) h m) (does_follows _ r new after d))

  -- a numeral
  pub numeral_placed : (at v : ℕ) → k ≡ token.Numeral at v → (r : Result ℕ TermFault) (new : List Term) → Does (made names most wants at (head.Numeral v) [] old) r new → ReadsTree names most wants (seen k ∷ after) old (said r after) new
  numeral_placed at v is r new d =
      by_tree names most wants _ old (said r after) new (number at v) after (ap (λ j. seen j ∷ after) is) (does_follows _ r new after d)

  -- no other token begins a term
  pub no_other : Begins (seen k ∷ after) → ((a : ℕ) (w : Bor (List ℕ)) → k ≡ token.Symbol a w → ⊥) → ((a v : ℕ) → k ≡ token.Numeral a v → ⊥) → ((a : ℕ) → k ≡ token.Open a → ⊥) → ⊥
  no_other b s n o = none_of k refl b.1.tree b.1.spelt
    where
      none_of : (j : Token) → k ≡ j → (t : Tree) → seen k ∷ after ≡ spell t b.0 → ⊥
      none_of (token.Symbol a w) e t h = s a w e
      none_of (token.Numeral a v) e t h = n a v e
      none_of (token.Open a) e t h = o a e
      none_of (token.Close a) e t h = not_close t b.0 after a (sym h ∙ ap (λ j. seen j ∷ after) e)
      none_of (token.Keyword a w) e t h = not_keyword t b.0 after a w.now (sym h ∙ ap (λ j. seen j ∷ after) e)

-- what an early return leaves to be shown: the fault is the one that was passed on
pub refused_reads : (names : List Name) (most : ℕ) (wants : Bool) (text : List Tok) (old new : List Term) (r : Result (ℕ × Reader) TermFault) (y f : TermFault) → r ≡ Err y → y ≡ f → ReadsTree names most wants text old (failed f) new → ReadsTree names most wants text old (told r) new
refused_reads names most wants text old new r y f e g h =
    subst (λ q. ReadsTree names most wants text old (told q) new) (sym (e ∙ ap Err g)) h
