-- A list of items that is read from the left.
use Rattle.std.proofs.Common.{◌≡◌, ℕ, ◌+◌, ◌<◌, ◌≤◌, List, ◌∷◌, length, sym, refl, ap, ◌∙◌, subst, arith}
use Rattle.text.specs.Tokens.{Tok, opens, closes, symbol, numeral, seen, place}
use Rattle.text.specs.declared.token.Token.{Token}
use Rattle.text.specs.declared.token.Token.TheVariants as token
use Rattle.forms.specs.Takes.{NoToken}
use Rattle.forms.specs.Trees.{Tree, start, FirstAt, name, number, call, Trees, none, more, count, spell, spells, Fit, Fits, First, NoneFirst, Listed, NotListed}
use Rattle.forms.specs.declared.item.Item.{Item}
use Rattle.forms.proofs.Spelling.{off, not_close, same_tree, same_trees}

-- one more tree at the end
abbrev pub snoc : Trees → Tree → Trees
snoc none t = more t none
snoc (more u us) t = more u (snoc us t)

count_snoc : (ts : Trees) (t : Tree) → count (snoc ts t) ≡ count ts + 1
count_snoc none t = refl
count_snoc (more u us) t = omega (arith, count_snoc us t)

fits_snoc : (item : Item) (ts : Trees) (t : Tree) → Fits item ts → Fit item t → Fits item (snoc ts t)
fits_snoc item none t h f = (f, tt)
fits_snoc item (more u us) t h f = (h.0, fits_snoc item us t h.1 f)

spells_snoc : (ts : Trees) (t : Tree) (rest : List Tok) → spells (snoc ts t) rest ≡ spells ts (spell t rest)
spells_snoc none t rest = refl
spells_snoc (more u us) t rest = ap (spell u) (spells_snoc us t rest)

-- the trees of a whole list that are left once some are read
record Left (item : Item) (ts read : Trees) (text tail : List Tok) : Type 0 where
  others : Trees
  counts : count ts ≡ count read + count others
  fits : Fits item others
  spelt : text ≡ spells others tail

left_of : (item : Item) (read ts : Trees) (text : List Tok) (end : ℕ) (rest : List Tok) → spells read text ≡ spells ts (closes end ∷ rest) → Fits item ts → Left item ts read text (closes end ∷ rest)
left_of item none ts text end rest e f = record { others = ts; counts = omega arith; fits = f; spelt = e }
left_of item (more r read) none text end rest e f = absurd (not_close r (spells read text) rest end e)
left_of item (more r read) (more t ts) text end rest e f =
    let h = left_of item read ts text end rest (same_tree r t (spells read text) (spells ts (closes end ∷ rest)) e).1 f.1 in
    record { others = h.others; counts = omega (arith, h.counts); fits = h.fits; spelt = h.spelt }

-- what follows trees is no longer than with them
mutual
  shorter : (t : Tree) (rest : List Tok) → length rest ≤ length (spell t rest)
  shorter (name a w) rest = omega arith
  shorter (number a v) rest = omega arith
  shorter (call a h w ts z) rest = omega (arith, shorter_all ts (closes z ∷ rest))

  pub shorter_all : (ts : Trees) (rest : List Tok) → length rest ≤ length (spells ts rest)
  shorter_all none rest = omega arith
  shorter_all (more t ts) rest = omega (arith, shorter t (spells ts rest), shorter_all ts rest)

-- the trees read so far from a list's first token on
pub record Reading (item : Item) (n : ℕ) (all text : List Tok) : Type 0 where
  pub read : Trees
  pub counted : count read ≡ n
  pub fits : Fits item read
  pub spelt : all ≡ spells read text

pub fewer : (item : Item) (n : ℕ) (all text : List Tok) → Reading item n all text → length text ≤ length all
fewer item n all text r = omega (arith, shorter_all r.read text, ap length r.spelt)

pub begun : (item : Item) (all : List Tok) → Reading item 0 all all
begun item all = record { read = none; counted = refl; fits = tt; spelt = refl }

module _ (item : Item) (least n : ℕ) (all text : List Tok) (r : Reading item n all text) where
  -- nothing that goes on from here ends the list
  stuck : ((us : Trees) (end : ℕ) (rest : List Tok) → least ≤ n + count us → n + count us ≤ 64 → Fits item us → text ≡ spells us (closes end ∷ rest) → ⊥) → NotListed item least all
  stuck never ts end rest enough few f e =
      let h = left_of item r.read ts text end rest (sym r.spelt ∙ e) f in
      never h.others end rest (omega (arith, h.counts, r.counted)) (omega (arith, h.counts, r.counted)) h.fits h.spelt

  pub no_token : NoToken text → NotListed item least all
  no_token none_left = stuck dead
    where
      closed : (at : ℕ) (rest : List Tok) → text ≡ closes at ∷ rest → ⊥
      closed at rest e = subst NoToken e none_left

      first : (t : Tree) (rest : List Tok) → text ≡ spell t rest → ⊥
      first (name a w) rest e = subst NoToken e none_left
      first (number a v) rest e = subst NoToken e none_left
      first (call a h w ts z) rest e = subst NoToken e none_left

      dead : (us : Trees) (end : ℕ) (rest : List Tok) → least ≤ n + count us → n + count us ≤ 64 → Fits item us → text ≡ spells us (closes end ∷ rest) → ⊥
      dead none end rest lo hi f e = closed end rest e
      dead (more u us) end rest lo hi f e = first u _ e

  pub too_few : (k : Token) (a : ℕ) (after : List Tok) → text ≡ seen k ∷ after → k ≡ token.Close a → n < least → NotListed item least all
  too_few k a after is close lt = stuck dead
    where
      dead : (us : Trees) (end : ℕ) (rest : List Tok) → least ≤ n + count us → n + count us ≤ 64 → Fits item us → text ≡ spells us (closes end ∷ rest) → ⊥
      dead none end rest lo hi f e = omega arith
      dead (more u us) end rest lo hi f e = not_close u _ after a (sym e ∙ is ∙ ap (λ j. seen j ∷ after) close)

  pub no_item : (k : Token) (after : List Tok) → text ≡ seen k ∷ after → ((a : ℕ) → k ≡ token.Close a → ⊥) → NoneFirst item (seen k ∷ after) → NotListed item least all
  no_item k after is other never = stuck dead
    where
      ended : (j : Token) → ((a : ℕ) → j ≡ token.Close a → ⊥) → (end : ℕ) (rest : List Tok) → seen j ∷ after ≡ closes end ∷ rest → ⊥
      ended (token.Open a) h end rest e = off (cc)
      ended (token.Close a) h end rest e = h a refl
      ended (token.Symbol a w) h end rest e = off (cc)
      ended (token.Keyword a w) h end rest e = off (cc)
      ended (token.Numeral a v) h end rest e = off (cc)

      dead : (us : Trees) (end : ℕ) (rest : List Tok) → least ≤ n + count us → n + count us ≤ 64 → Fits item us → text ≡ spells us (closes end ∷ rest) → ⊥
      dead none end rest lo hi f e = ended k other end rest (sym is ∙ e)
      dead (more u us) end rest lo hi f e = never u _ f.0 (sym is ∙ e)

  pub too_many : 64 < n → NotListed item least all
  too_many lt = stuck (λ us end rest lo hi f e. omega arith)

  pub closed : (k : Token) (a : ℕ) (after : List Tok) → text ≡ seen k ∷ after → k ≡ token.Close a → least ≤ n → n ≤ 64 → Listed item least all after
  closed k a after is close lo hi = record {
    trees = r.read;
    end = a;
    enough = omega (arith, r.counted);
    few = omega (arith, r.counted);
    fits = r.fits;
    spelt = r.spelt ∙ ap (spells r.read) (is ∙ ap (λ j. seen j ∷ after) close);
  }

  pub onward : (k : Token) (after rest : List Tok) → text ≡ seen k ∷ after → First item (seen k ∷ after) rest → Reading item (n + 1) all rest
  onward k after rest is f = record {
    read = snoc r.read f.tree;
    counted = omega (arith, count_snoc r.read f.tree, r.counted);
    fits = fits_snoc item r.read f.tree r.fits f.fit;
    spelt = r.spelt ∙ ap (spells r.read) (is ∙ f.spelt) ∙ sym (spells_snoc r.read f.tree rest);
  }

-- what follows a list or a term is what follows it in any spelling
pub after_list : (item : Item) (least : ℕ) (text rest : List Tok) → Listed item least text rest → (ts : Trees) (end : ℕ) (others : List Tok) → text ≡ spells ts (closes end ∷ others) → rest ≡ others
after_list item least text rest l ts end others e = (same_trees l.trees ts l.end end rest others (sym l.spelt ∙ e)).2

pub after_term : (item : Item) (text : List Tok) (at : ℕ) (rest : List Tok) → FirstAt item text at rest → (t : Tree) (others : List Tok) → text ≡ spell t others → rest ≡ others
after_term item text at rest f t others e = (same_tree f.tree t rest others (sym f.spelt ∙ e)).1

-- where no token is first no item is
pub none_without : (item : Item) (text : List Tok) → NoToken text → NoneFirst item text
none_without item text empty (name a w) rest f e = subst NoToken e empty
none_without item text empty (number a v) rest f e = subst NoToken e empty
none_without item text empty (call a h w ts z) rest f e = subst NoToken e empty

-- a term with the place of its first token
starts_at : (t : Tree) (k : Tok) (after rest : List Tok) → k ∷ after ≡ spell t rest → place k ≡ start t
starts_at (name a w) k after rest e = ap place (let same : k ≡ symbol a w = cc in same)
starts_at (number a v) k after rest e = ap place (let same : k ≡ numeral a v = cc in same)
starts_at (call a h w ts z) k after rest e = ap place (let same : k ≡ opens a = cc in same)

pub placed : (item : Item) (k : Token) (text after rest : List Tok) (at : ℕ) → text ≡ seen k ∷ after → at ≡ place (seen k) → First item (seen k ∷ after) rest → FirstAt item text at rest
placed item k text after rest at is here f = record {
  tree = f.tree;
  fit = f.fit;
  spelt = is ∙ f.spelt;
  starts = here ∙ starts_at f.tree (seen k) after rest f.spelt;
}
