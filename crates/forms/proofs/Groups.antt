-- The parts of a step: its clause, and the lists that may be absent.
use Rattle.std.proofs.Common.{◌≡◌, ℕ, List, [], ◌∷◌, Some, None, codes, Option, sym, refl, ap, ◌∙◌, arith}
use Rattle.text.specs.Reading.{left}
use Rattle.text.specs.Tokens.{Tok, opens, closes, symbol, keyword}
use Rattle.text.specs.declared.reader.Reader.{Reader}
use Rattle.forms.specs.Trees.{Trees, spells}
use Rattle.forms.specs.Forms.{Named, word, Group, absent, given, spell_group, FitGroup, place_of_group, Reason, spell_reason, FitReason}
use Rattle.forms.specs.Parsed.{kept_reason, Grouped, Clause}
use Rattle.forms.specs.declared.item.Item.{Item}
use Rattle.forms.specs.declared.item.Item.TheVariants.{Term, Symbol, Argument}
use Rattle.forms.proofs.Lists.{after_list}
use Rattle.forms.proofs.Spelling.{off}

-- a clause that is read, or none
pub clause_follows : (tokens : List Tok) (at : ℕ) (rest : List Tok) → Clause tokens at rest → (a c : ℕ) (ts : Trees) (r : ℕ) (others : List Tok) → tokens ≡ opens a ∷ symbol c (codes "cl") ∷ spells ts (closes r ∷ others) → rest ≡ others
clause_follows tokens at rest h a c ts r others e =
    let inner : h.inner ≡ spells ts (closes r ∷ others) = let o = h.opened in cc in after_list Term 0 h.inner rest h.listed ts r others inner

-- a key is not what tokens begin with
abbrev pub NotKey : List ℕ → List Tok → Type 0
NotKey key ts = (k : ℕ) (rest : List Tok) → ts ≡ keyword k key ∷ rest → ⊥

-- what follows the premises and the arguments of a step
pub not_premises : (args : Group) (end : ℕ) → NotKey (codes "premises") (spell_group (codes "args") args (closes end ∷ []))
not_premises absent end k rest e = off (cc)
not_premises (given j at items z) end k rest e = let apart : ◌≡◌ {A = ℕ} 97 112 = cc in omega arith

pub not_args : (end : ℕ) → NotKey (codes "args") (closes end ∷ [])
not_args end k rest e = off (cc)

module _ (key : List ℕ) (item : Item) (tokens : List Tok) where
  pub no_group : Grouped key item tokens None → (g : Group) (rest : List Tok) → FitGroup item g → NotKey key rest → tokens ≡ spell_group key g rest → ⊥
  no_group h absent rest fit other e = other h.0.0 h.0.1 (sym e ∙ h.0.2)
  no_group h (given k at items end) rest fit other e = h.1 k at _ e items end rest fit.0 fit.1 fit.2 refl

  pub group_follows : (p : Option ℕ × Reader) → Grouped key item tokens (Some p) → (g : Group) (rest : List Tok) → NotKey key rest → tokens ≡ spell_group key g rest → (left p.1 ≡ rest) × (p.0 ≡ place_of_group g)
  group_follows (None, after) h absent rest other e = (h.1 ∙ e, refl)
  group_follows (None, after) h (given k at items end) rest other e = absurd (h.0 k _ e)
  group_follows (Some a, after) h absent rest other e = absurd (other h.0 _ (sym e ∙ h.2))
  group_follows (Some a, after) h (given k at items end) rest other e =
      let inner : h.1 ≡ spells items (closes end ∷ rest) = let o = h.2 in cc in
      let here : a ≡ at = let o = h.2 in cc in
      (after_list item 1 h.1 (left after) h.3 items end rest inner, ap Some here)

  -- the group that was read
  pub group_made : (p : Option ℕ × Reader) → Grouped key item tokens (Some p) → (g : Group) × FitGroup item g × (tokens ≡ spell_group key g (left p.1)) × (p.0 ≡ place_of_group g)
  group_made (None, after) h = (absent, tt, sym h.1, refl)
  group_made (Some a, after) h =
      let l = h.3 in
      (given h.0 a l.trees l.end, (l.enough, l.few, l.fits), h.2 ∙ ap (λ ts. keyword h.0 key ∷ opens a ∷ ts) l.spelt, refl)

-- a justification that was read
pub reason_made : (rule : Named) (key : ℕ) (text : List Tok) (p a : Option ℕ × Reader) (end : ℕ) {list : List Tok} → Grouped (codes "premises") Symbol list (Some p) → Grouped (codes "args") Argument (left p.1) (Some a) → left a.1 ≡ closes end ∷ [] → (after : List Tok) → text ≡ keyword key (codes "rule") ∷ after → after ≡ word rule ∷ list → (t : Reason) × FitReason t × (text ≡ spell_reason t) × (record { rule = rule; premises = p.0; args = a.0 } ≡ kept_reason t)
reason_made rule key text p a end {list} hp ha he after ht hr =
    let gp = group_made (codes "premises") Symbol list p hp in
    let ga = group_made (codes "args") Argument (left p.1) a ha in
    let ep : list ≡ spell_group (codes "premises") gp.0 (left p.1) = gp.2 in
    let ea : left p.1 ≡ spell_group (codes "args") ga.0 (left a.1) = ga.2 in
    (record { key = key; rule = rule; premises = gp.0; args = ga.0; end = end }, (gp.1, ga.1), ht ∙ ap (λ l. keyword key (codes "rule") ∷ l) (hr ∙ ap (λ l. word rule ∷ l) (ep ∙ ap (spell_group (codes "premises") gp.0) (ea ∙ ap (spell_group (codes "args") ga.0) he))), λ i. record { rule = rule; premises = gp.3 i; args = ga.3 i })
