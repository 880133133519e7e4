-- Arguments that are read from the left: what is left gives the same result.
use Rattle.entries.specs.declared.entry.Name.{Name}
use Rattle.entries.specs.declared.entry.Term.{Term}
use Rattle.std.proofs.Common.{◌≡◌, ℕ, ◌+◌, ◌<◌, ◌≤◌, Bool, false, List, [], ◌∷◌, ◌++◌, length, sym, refl, ap, ◌∙◌, subst, arith}
use Rattle.std.proofs.lemmas.List.{length_push}
use Rattle.text.specs.Tokens.{Tok, closes, seen}
use Rattle.text.specs.declared.token.Token.{Token}
use Rattle.text.specs.declared.token.Token.TheVariants as token
use Rattle.forms.specs.Takes.{NoToken}
use Rattle.forms.specs.Trees.{Tree, name, number, call, Trees, none, more, count, spell, spells, Fits}
use Rattle.forms.specs.declared.item.Item.TheVariants as item
use Rattle.forms.proofs.Lists.{shorter_all}
use Rattle.forms.proofs.Spelling.{off, not_close, same_tree, same_trees}
use Rattle.declarations.specs.declared.fault.TermFault.{TermFault}
use Rattle.terms.specs.Reads.{Out, fails, gives, with_first, read, reads}
use Rattle.terms.specs.Reading.{Told, failed, got, Follows, Begins, ReadsTree, ToldAll, failed_at, got_all, FollowsAll, BeginsAll, ReadsTrees}

-- one witness is every witness, as spelling shows the tree
pub by_tree : (names : List Name) (most : ℕ) (wants : Bool) (text : List Tok) (old : List Term) (answer : Told) (new : List Term) (t : Tree) (rest : List Tok) → text ≡ spell t rest → Follows (read names most wants t old) answer new rest → ReadsTree names most wants text old answer new
by_tree names most wants text old answer new t rest e h u others g =
    let same = same_tree t u rest others (sym e ∙ g) in
    subst (λ v. Follows (read names most wants v old) answer new others) same.0 (subst (λ r. Follows (read names most wants t old) answer new r) same.1 h)

pub by_trees : (names : List Name) (most : ℕ) (text : List Tok) (old : List Term) (answer : ToldAll) (new : List Term) (ts : Trees) (end : ℕ) (rest : List Tok) → text ≡ spells ts (closes end ∷ rest) → FollowsAll (reads names most ts [] old) answer new rest → ReadsTrees names most text old answer new
by_trees names most text old answer new ts end rest e h us fin others g =
    let same = same_trees ts us end fin rest others (sym e ∙ g) in
    subst (λ v. FollowsAll (reads names most v [] old) answer new others) same.0 (subst (λ r. FollowsAll (reads names most ts [] old) answer new r) same.2 h)

-- what an answer says of the outcome
failed_is : (o : Out) (f : TermFault) (new : List Term) (rest : List Tok) → Follows o (failed f) new rest → o ≡ fails f
failed_is (fails g) f new rest h = let same : f ≡ g = cc in ap fails (sym same)
failed_is (gives n terms) f new rest h = off (let e = h.0 in cc)

got_is : (o : Out) (n : ℕ) (after rest : List Tok) (new : List Term) → Follows o (got n after) new rest → (o ≡ gives n new) × (after ≡ rest)
got_is (fails g) n after rest new h = off cc
got_is (gives m terms) n after rest new h =
    let e = h.0 in
    let number : n ≡ m = cc in
    let same : new ≡ terms = h.1 in
    ((λ i. gives (sym number i) (sym same i)), cc)

-- the arguments done so far, and what is left of the list
pub record Midway (names : List Name) (most : ℕ) (all-text : List Tok) (old : List Term) (done : List ℕ) (terms : List Term) (text : List Tok) : Type 0 where
  pub all : Trees
  pub others : Trees
  pub end : ℕ
  pub rest : List Tok
  pub few : length done + count others ≤ 64
  pub fits : Fits item.Term others
  pub spelt_all : all-text ≡ spells all (closes end ∷ rest)
  pub spelt : text ≡ spells others (closes end ∷ rest)
  pub agree : reads names most all [] old ≡ reads names most others done terms

pub midway_start : (names : List Name) (most : ℕ) (text : List Tok) (old : List Term) → BeginsAll text → Midway names most text old [] old text
midway_start names most text old b = record {
  all = b.trees;
  others = b.trees;
  end = b.end;
  rest = b.rest;
  few = omega (arith, b.few);
  fits = b.fits;
  spelt_all = b.spelt;
  spelt = b.spelt;
  agree = refl;
}

-- a term is not empty, so what follows it is shorter
shorter : (t : Tree) (rest : List Tok) → length rest < length (spell t rest)
shorter (name a w) rest = omega arith
shorter (number a v) rest = omega arith
shorter (call a h w ts z) rest = omega (arith, shorter_all ts (closes z ∷ rest))

-- two tokens that are one, of which one is no closing bracket
closes_only : (k : Token) → ((a : ℕ) → k ≡ token.Close a → ⊥) → (after rest : List Tok) (end : ℕ) → seen k ∷ after ≡ closes end ∷ rest → ⊥
closes_only (token.Open a) h after rest end e = off cc
closes_only (token.Close a) h after rest end e = h a refl
closes_only (token.Symbol a w) h after rest end e = off cc
closes_only (token.Keyword a w) h after rest end e = off cc
closes_only (token.Numeral a v) h after rest end e = off cc

module _ (names : List Name) (most : ℕ) (all-text : List Tok) (old : List Term) (done : List ℕ) (terms : List Term) (text : List Tok) (m : Midway names most all-text old done terms text) where
  -- a closing bracket ends the list
  pub finished : (a : ℕ) (after : List Tok) → text ≡ closes a ∷ after → ReadsTrees names most all-text old (got_all done after) terms
  finished a after e = ended m.others m.spelt m.agree
    where
      ended : (ts : Trees) → text ≡ spells ts (closes m.end ∷ m.rest) → reads names most m.all [] old ≡ reads names most ts done terms → ReadsTrees names most all-text old (got_all done after) terms
      ended none s agree =
          let follow : after ≡ m.rest = cc in
          by_trees names most all-text old (got_all done after) terms m.all m.end m.rest m.spelt_all
          (subst (λ o. FollowsAll o (got_all done after) terms m.rest) (sym agree) (ap (got_all done) follow, refl))
      ended (more t ts) s agree = absurd (not_close t _ after a (sym s ∙ e))

  -- another token begins the next argument
  module _ (k : Token) (after : List Tok) (e : text ≡ seen k ∷ after) (other : (a : ℕ) → k ≡ token.Close a → ⊥) where
    record Split : Type 0 where
      tree : Tree
      trees : Trees
      is : m.others ≡ more tree trees

    split : (ts : Trees) → m.others ≡ ts → Split
    split none is = absurd (closes_only k other after m.rest m.end (sym e ∙ m.spelt ∙ ap (λ ts. spells ts (closes m.end ∷ m.rest)) is))
    split (more t ts) is = record { tree = t; trees = ts; is = is }

    next_one : Split
    next_one = split m.others refl

    here : seen k ∷ after ≡ spell next_one.tree (spells next_one.trees (closes m.end ∷ m.rest))
    here = sym e ∙ m.spelt ∙ ap (λ ts. spells ts (closes m.end ∷ m.rest)) next_one.is

    fitting_one : Fits item.Term (more next_one.tree next_one.trees)
    fitting_one = subst (Fits item.Term) next_one.is m.fits

    few_more : length done + (1 + count next_one.trees) ≤ 64
    few_more = subst (λ ts. length done + count ts ≤ 64) next_one.is m.few

    pub begins : Begins (seen k ∷ after)
    begins = (_, record { tree = next_one.tree; fit = fitting_one.0; spelt = here })

    pub room_left : length done < 64
    room_left = omega (arith, few_more)

    on : reads names most m.all [] old ≡ with_first (read names most false next_one.tree terms) (λ n new. reads names most next_one.trees (done ++ n ∷ []) new)
    on = m.agree ∙ ap (λ ts. reads names most ts done terms) next_one.is

    pub stopped : (f : TermFault) (new : List Term) → ReadsTree names most false (seen k ∷ after) terms (failed f) new → ReadsTrees names most all-text old (failed_at f) new
    stopped f new h =
        let is = failed_is _ f new _ (h next_one.tree _ here) in
        by_trees names most all-text old (failed_at f) new m.all m.end m.rest m.spelt_all
        (subst (λ o. FollowsAll o (failed_at f) new m.rest) (sym (on ∙ ap (λ o. with_first o (λ n ts. reads names most next_one.trees (done ++ n ∷ []) ts)) is)) refl)

    pub onward : (n : ℕ) (behind : List Tok) (new : List Term) → ReadsTree names most false (seen k ∷ after) terms (got n behind) new → Midway names most all-text old (done ++ n ∷ []) new behind
    onward n behind new h =
        let is = got_is _ n behind _ new (h next_one.tree _ here) in
        record {
          all = m.all;
          others = next_one.trees;
          end = m.end;
          rest = m.rest;
          few = omega (arith, few_more, length_push done n);
          fits = fitting_one.1;
          spelt_all = m.spelt_all;
          spelt = is.1;
          agree = on ∙ ap (λ o. with_first o (λ j ts. reads names most next_one.trees (done ++ j ∷ []) ts)) is.0;
        }

    pub shrunk : (n : ℕ) (behind : List Tok) (new : List Term) → ReadsTree names most false (seen k ∷ after) terms (got n behind) new → length behind < length text
    shrunk n behind new h =
        let is = got_is _ n behind _ new (h next_one.tree _ here) in
        omega (arith, shorter next_one.tree (spells next_one.trees (closes m.end ∷ m.rest)), ap length here, ap length e, ap length is.1)

  -- a token comes first
  pub some_token : NoToken text → ⊥
  some_token h = first m.others m.spelt
    where
      first : (ts : Trees) → text ≡ spells ts (closes m.end ∷ m.rest) → ⊥
      first none s = subst NoToken s h
      first (more (name a w) ts) s = subst NoToken s h
      first (more (number a v) ts) s = subst NoToken s h
      first (more (call a g w us z) ts) s = subst NoToken s h
