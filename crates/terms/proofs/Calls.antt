-- Terms in brackets.
use Rattle.entries.specs.declared.entry.Name.{Name}
use Rattle.entries.specs.declared.entry.Term.{Term}
use Rattle.std.proofs.Common.{◌≡◌, ℕ, ◌≤◌, Bool, List, ◌∷◌, sym, refl, ap, ◌∙◌, subst, Ok, Err, Option, Result}
use Rattle.text.specs.Tokens.{Tok, opens, closes, symbol}
use Rattle.forms.specs.Trees.{Tree, name, number, call, Trees, count, spell, spells, Fit, Fits}
use Rattle.forms.specs.declared.item.Item.TheVariants as item
use Rattle.forms.proofs.Spelling.{off, tails}
use Rattle.entries.specs.declared.entry.Head.{Head}
use Rattle.declarations.specs.declared.fault.TermFault.{TermFault}
use Rattle.declarations.specs.declared.fault.TermFault.TheVariants.{Unknown}
use Rattle.terms.specs.Reads.{Outs, stops, lists, with_args, head_named, made, known}
use Rattle.terms.specs.Reading.{Told, failed, Follows, Begins, ReadsTree, failed_at, got_all, FollowsAll, BeginsAll, ReadsTrees}
use Rattle.std.specs.Option.{ok_or}
use Rattle.terms.specs.Memory.{listed, most, Onward}
use Rattle.terms.specs.State.{Does}
use Rattle.terms.specs.declared.list.TermList.{TermList}
use Rattle.terms.proofs.Leaves.{said, does_follows, missing, there}
use Rattle.terms.proofs.Midway.{by_tree}
use Rattle.terms.proofs.Turns.{same_names, same_room}

-- what follows the bracket of a term
pub record Inside (after : List Tok) : Type 0 where
  pub word : ℕ
  pub bytes : List ℕ
  pub trees : Trees
  pub end : ℕ
  pub rest : List Tok
  pub few : count trees ≤ 64
  pub fits : Fits item.Term trees
  pub spelt : after ≡ symbol word bytes ∷ spells trees (closes end ∷ rest)

pub inside : (at : ℕ) (after : List Tok) → Begins (opens at ∷ after) → Inside after
inside at after b = by_case b.1.tree b.1.fit b.1.spelt
  where
    by_case : (t : Tree) → Fit item.Term t → opens at ∷ after ≡ spell t b.0 → Inside after
    by_case (name a w) f e = off cc
    by_case (number a v) f e = off cc
    by_case (call a h w ts z) f e = record { word = h; bytes = w; trees = ts; end = z; rest = b.0; few = f.1; fits = f.2; spelt = cc }

stops_is : (o : Outs) (f : TermFault) (new : List Term) (rest : List Tok) → FollowsAll o (failed_at f) new rest → o ≡ stops f
stops_is (stops g) f new rest h = let same : f ≡ g = cc in ap stops (sym same)
stops_is (lists ns terms) f new rest h = off (let e = h.0 in cc)

lists_is : (o : Outs) (ns : List ℕ) (behind rest : List Tok) (new : List Term) → FollowsAll o (got_all ns behind) new rest → (o ≡ lists ns new) × (behind ≡ rest)
lists_is (stops g) ns behind rest new h = off cc
lists_is (lists ms terms) ns behind rest new h =
    let e = h.0 in
    let numbers : ns ≡ ms = cc in
    let same : new ≡ terms = h.1 in
    ((λ i. lists (sym numbers i) (sym same i)), cc)

module _ (names : List Name) (most : ℕ) (wants : Bool) (old : List Term) (at : ℕ) (after : List Tok) (b : Begins (opens at ∷ after)) (word : ℕ) (bytes : List ℕ) (inner : List Tok) (e : after ≡ symbol word bytes ∷ inner) where
  i : Inside after
  i = inside at after b

  -- the arguments come next
  next_is : inner ≡ spells i.trees (closes i.end ∷ i.rest)
  next_is = tails e i.spelt

  pub args_begin : BeginsAll inner
  args_begin = record { trees = i.trees; end = i.end; rest = i.rest; few = i.few; fits = i.fits; spelt = next_is }

  whole : opens at ∷ after ≡ spell (call at word bytes i.trees i.end) i.rest
  whole = ap (λ l. opens at ∷ l) (e ∙ ap (λ l. symbol word bytes ∷ l) next_is)

  pub args_failed : (f : TermFault) (new : List Term) → ReadsTrees names most inner old (failed_at f) new → ReadsTree names most wants (opens at ∷ after) old (failed f) new
  args_failed f new h =
      by_tree names most wants _ old (failed f) new (call at word bytes i.trees i.end) i.rest whole
      (subst (λ o. Follows (with_args o (λ ns ts. known names most wants at word (head_named names bytes) ns ts)) (failed f) new i.rest) (sym (stops_is _ f new i.rest (h i.trees i.end i.rest next_is))) refl)

  pub args_got : (ns : List ℕ) (behind : List Tok) (mid : List Term) → ReadsTrees names most inner old (got_all ns behind) mid → (answer : Told) (new : List Term) → Follows (known names most wants at word (head_named names bytes) ns mid) answer new behind → ReadsTree names most wants (opens at ∷ after) old answer new
  args_got ns behind mid h answer new g =
      let is = lists_is _ ns behind i.rest mid (h i.trees i.end i.rest next_is) in
      by_tree names most wants _ old answer new (call at word bytes i.trees i.end) i.rest whole
      (subst (λ o. Follows (with_args o (λ ms ts. known names most wants at word (head_named names bytes) ms ts)) answer new i.rest) (sym is.0) (subst (λ r. Follows (known names most wants at word (head_named names bytes) ns mid) answer new r) is.1 g))

-- the arguments were read, and the list is `mid`
module _ (old mid : TermList) (added : Onward old mid) (wants : Bool) (at : ℕ) (after : List Tok) (b : Begins (opens at ∷ after)) (word : ℕ) (bytes : List ℕ) (inner : List Tok) (e : after ≡ symbol word bytes ∷ inner) (ns : List ℕ) (behind : List Tok) (h : ReadsTrees old.names.now (most old) inner (listed old) (got_all ns behind) (listed mid)) (o : Option Head) (is : o ≡ head_named mid.names.now bytes) where
  call_read : (answer : Told) (new : List Term) → Follows (known mid.names.now (most mid) wants at word o ns (listed mid)) answer new behind → ReadsTree old.names.now (most old) wants (opens at ∷ after) (listed old) answer new
  call_read answer new g =
      args_got old.names.now (most old) wants (listed old) at after b word bytes inner e ns behind (listed mid) h answer new
      (subst (λ names. Follows (known names (most old) wants at word (head_named names bytes) ns (listed mid)) answer new behind) (same_names old mid added)
      (subst (λ room. Follows (known mid.names.now room wants at word (head_named mid.names.now bytes) ns (listed mid)) answer new behind) (same_room old mid added)
      (subst (λ q. Follows (known mid.names.now (most mid) wants at word q ns (listed mid)) answer new behind) is g)))

  pub call_unknown : (f : TermFault) → Err f ≡ ok_or o (Unknown word) → ReadsTree old.names.now (most old) wants (opens at ∷ after) (listed old) (failed f) (listed mid)
  call_unknown f m =
      let w = missing o (Unknown word) f m in
      call_read (failed f) (listed mid) (subst (λ q. Follows (known mid.names.now (most mid) wants at word q ns (listed mid)) (failed f) (listed mid) behind) w.0 (ap failed (sym w.1)))

  pub call_placed : (k : Head) → Ok k ≡ ok_or o (Unknown word) → (args : List ℕ) → args ≡ ns → (r : Result ℕ TermFault) (new : List Term) → Does (made mid.names.now (most mid) wants at k args (listed mid)) r new → ReadsTree old.names.now (most old) wants (opens at ∷ after) (listed old) (said r behind) new
  call_placed k m args same r new d =
      call_read (said r behind) new
      (subst (λ q. Follows (known mid.names.now (most mid) wants at word q ns (listed mid)) (said r behind) new behind) (there o (Unknown word) k m)
      (subst (λ used. Follows (made mid.names.now (most mid) wants at k used (listed mid)) (said r behind) new behind) same (does_follows _ r new behind d)))
