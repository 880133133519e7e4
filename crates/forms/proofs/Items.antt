-- Items of a list, read from the left.
use Rattle.std.proofs.Common.{◌≡◌, ℕ, ◌≤◌, List, ◌∷◌, Some, None, codes, Option, sym, refl, ap, ◌∙◌, Bor, MatchOption}
use Rattle.text.specs.Tokens.{Tok, opens, closes, symbol, numeral}
use Rattle.text.specs.Tokens.{seen}
use Rattle.text.specs.declared.token.Token.{Token}
use Rattle.text.specs.declared.token.Token.TheVariants as token
use Rattle.text.specs.Reading.{left}
use Rattle.text.specs.declared.reader.Reader.{Reader}
use Rattle.forms.specs.Trees.{Tree, name, number, call, Trees, none, more, count, spell, spells, Fit, Fits, First, NoneFirst, Listed, NotListed}
use Rattle.forms.specs.declared.item.Item.TheVariants.{Term, Symbol, Argument}
use Rattle.forms.proofs.Spelling.{off, tails, not_close, not_keyword}

-- what follows the opening bracket of a negative argument
pub record Signed (after rest : List Tok) : Type 0 where
  pub minus : ℕ
  pub place : ℕ
  pub value : ℕ
  pub end : ℕ
  pub is : after ≡ symbol minus (codes "-") ∷ numeral place value ∷ closes end ∷ rest

signed : (t : Tree) (a : ℕ) (after rest : List Tok) → Fit Argument t → opens a ∷ after ≡ spell t rest → Signed after rest
signed (name b w) a after rest f e = off (cc)
signed (number b v) a after rest f e = off (cc)
signed (call b h w none z) a after rest f e = absurd f.1
signed (call b h w (more (name c v) ts) z) a after rest f e = absurd f.1
signed (call b h w (more (number c v) none) z) a after rest f e =
    let minus : w ≡ codes "-" = f.0 in record { minus = h; place = c; value = v; end = z; is = cc }
signed (call b h w (more (number c v) (more t ts)) z) a after rest f e = absurd f.1
signed (call b h w (more (call c i v us y) ts) z) a after rest f e = absurd f.1

-- a first token, as the code has it, is another
pub first_is : (k l : Token) (after : List Tok) → k ≡ l → seen k ∷ after ≡ seen l ∷ after
first_is k l after e = ap (λ j. seen j ∷ after) e

-- what does not go on as a negative argument after its bracket is none
pub no_signed : (k : Token) (a : ℕ) (after : List Tok) → k ≡ token.Open a → ((rest : List Tok) → Signed after rest → ⊥) → NoneFirst Argument (seen k ∷ after)
no_signed k a after e stuck t rest f h = stuck rest (signed t a after rest f (sym (first_is k (token.Open a) after e) ∙ h))

pub is_signed : (k : Token) (a : ℕ) (after rest : List Tok) → k ≡ token.Open a → Signed after rest → First Argument (seen k ∷ after) rest
is_signed k a after rest e s = record {
  tree = call a s.minus (codes "-") (more (number s.place s.value) none) s.end;
  fit = (refl, tt);
  spelt = first_is k (token.Open a) after e ∙ ap (λ l. opens a ∷ l) s.is;
}

pub is_number : (k : Token) (a v : ℕ) (after : List Tok) → k ≡ token.Numeral a v → First Argument (seen k ∷ after) after
is_number k a v after e = record { tree = number a v; fit = tt; spelt = first_is k (token.Numeral a v) after e }

-- tokens that begin no item
module _ (after : List Tok) where
  pub no_argument : (k : Token) → ((a : ℕ) → k ≡ token.Open a → ⊥) → ((a v : ℕ) → k ≡ token.Numeral a v → ⊥) → NoneFirst Argument (seen k ∷ after)
  no_argument (token.Open a) o n t rest f h = o a refl
  no_argument (token.Close a) o n t rest f h = not_close t rest after a (sym h)
  no_argument (token.Symbol a w) o n (name b v) rest f h = f
  no_argument (token.Symbol a w) o n (number b v) rest f h = off (cc)
  no_argument (token.Symbol a w) o n (call b g v ts z) rest f h = off (cc)
  no_argument (token.Keyword a w) o n t rest f h = not_keyword t rest after a w.now (sym h)
  no_argument (token.Numeral a v) o n t rest f h = n a v refl

  pub no_term : (k : Token) → ((a : ℕ) (w : Bor (List ℕ)) → k ≡ token.Symbol a w → ⊥) → ((a v : ℕ) → k ≡ token.Numeral a v → ⊥) → ((a : ℕ) → k ≡ token.Open a → ⊥) → NoneFirst Term (seen k ∷ after)
  no_term (token.Open a) s n o t rest f h = o a refl
  no_term (token.Close a) s n o t rest f h = not_close t rest after a (sym h)
  no_term (token.Symbol a w) s n o t rest f h = s a w refl
  no_term (token.Keyword a w) s n o t rest f h = not_keyword t rest after a w.now (sym h)
  no_term (token.Numeral a v) s n o t rest f h = n a v refl

  pub no_symbol : (k : Token) → ((a : ℕ) (w : Bor (List ℕ)) → k ≡ token.Symbol a w → ⊥) → NoneFirst Symbol (seen k ∷ after)
  no_symbol (token.Symbol a w) s t rest f h = s a w refl
  no_symbol (token.Open a) s (name b v) rest f h = off (cc)
  no_symbol (token.Open a) s (number b v) rest f h = f
  no_symbol (token.Open a) s (call b g v ts z) rest f h = f
  no_symbol (token.Close a) s t rest f h = not_close t rest after a (sym h)
  no_symbol (token.Keyword a w) s t rest f h = not_keyword t rest after a w.now (sym h)
  no_symbol (token.Numeral a v) s (name b u) rest f h = off (cc)
  no_symbol (token.Numeral a v) s (number b u) rest f h = f
  no_symbol (token.Numeral a v) s (call b g u ts z) rest f h = f

-- a term in brackets: what follows its opening bracket
inside : (t : Tree) (a : ℕ) (after rest : List Tok) → Fit Term t → opens a ∷ after ≡ spell t rest → (h : ℕ) × (w : List ℕ) × (ts : Trees) × (z : ℕ) × (1 ≤ count ts) × (count ts ≤ 64) × Fits Term ts × (after ≡ symbol h w ∷ spells ts (closes z ∷ rest))
inside (name b w) a after rest f e = off (cc)
inside (number b v) a after rest f e = off (cc)
inside (call b h w ts z) a after rest f e = (h, w, ts, z, f.0, f.1, f.2, cc)

pub no_head : (k : Token) (a : ℕ) (after : List Tok) → k ≡ token.Open a → ((h : ℕ) (w : List ℕ) (rest : List Tok) → after ≡ symbol h w ∷ rest → ⊥) → NoneFirst Term (seen k ∷ after)
no_head k a after e stuck t rest f h =
    let i = inside t a after rest f (sym (first_is k (token.Open a) after e) ∙ h) in stuck i.0 i.1 _ i.7

no_inside : (k : Token) (a : ℕ) (after : List Tok) → k ≡ token.Open a → (h : ℕ) (w : List ℕ) (inner : List Tok) → after ≡ symbol h w ∷ inner → NotListed Term 1 inner → NoneFirst Term (seen k ∷ after)
no_inside k a after e h w inner is stuck t rest f g =
    let i = inside t a after rest f (sym (first_is k (token.Open a) after e) ∙ g) in
    stuck i.2 i.3 rest i.4 i.5 i.6 (tails is i.7)

is_inside : (k : Token) (a : ℕ) (after : List Tok) → k ≡ token.Open a → (h : ℕ) (w : List ℕ) (inner : List Tok) → after ≡ symbol h w ∷ inner → (rest : List Tok) → Listed Term 1 inner rest → First Term (seen k ∷ after) rest
is_inside k a after e h w inner is rest l = record {
  tree = call a h w l.trees l.end;
  fit = (l.enough, l.few, l.fits);
  spelt = first_is k (token.Open a) after e ∙ ap (λ r. opens a ∷ r) (is ∙ ap (λ r. symbol h w ∷ r) l.spelt);
}

-- a symbol or a numeral is an item by itself
pub is_symbol : (k : Token) (a : ℕ) (w : Bor (List ℕ)) (after : List Tok) → k ≡ token.Symbol a w → First Symbol (seen k ∷ after) after
is_symbol k a w after e = record { tree = name a w.now; fit = tt; spelt = first_is k (token.Symbol a w) after e }

pub is_name : (k : Token) (a : ℕ) (w : Bor (List ℕ)) (after : List Tok) → k ≡ token.Symbol a w → First Term (seen k ∷ after) after
is_name k a w after e = record { tree = name a w.now; fit = tt; spelt = first_is k (token.Symbol a w) after e }

pub is_numeral : (k : Token) (a v : ℕ) (after : List Tok) → k ≡ token.Numeral a v → First Term (seen k ∷ after) after
is_numeral k a v after e = record { tree = number a v; fit = tt; spelt = first_is k (token.Numeral a v) after e }

-- a list of arguments, read or not, after a term's bracket and symbol
pub inside_cases : (k : Token) (a : ℕ) (after : List Tok) → k ≡ token.Open a → (h : ℕ) (w : List ℕ) (inner : List Tok) → after ≡ symbol h w ∷ inner → (r : Option Reader) → MatchOption r (NotListed Term 1 inner) (λ rest. Listed Term 1 inner (left rest)) → MatchOption r (NoneFirst Term (seen k ∷ after)) (λ rest. First Term (seen k ∷ after) (left rest))
inside_cases k a after e h w inner is None c = no_inside k a after e h w inner is c
inside_cases k a after e h w inner is (Some rest) c = is_inside k a after e h w inner is (left rest) c
