-- What holds while arguments are read one after another.
use Rattle.std.proofs.Common.{◌≡◌, ℕ, ◌<◌, ◌≤◌, min, false, List, [], ◌∷◌, ◌++◌, length, take, Err, Result, sym, refl, ap, ◌∙◌, subst, arith, Bor}
use Rattle.std.specs.List.{AllByRecursion}
use Rattle.std.proofs.ByRecursion.{All-weaker, All-push}
use Rattle.std.proofs.lemmas.List.{take-take}
use Rattle.text.specs.Tokens.{Tok, seen}
use Rattle.text.specs.declared.token.Token.{Token}
use Rattle.text.specs.declared.token.Token.TheVariants as token
use Rattle.text.specs.declared.reader.Reader.{Reader}
use Rattle.forms.specs.Takes.{NoToken}
use Rattle.declarations.specs.declared.fault.TermFault.{TermFault}
use Rattle.entries.specs.declared.entry.Name.{Name}
use Rattle.entries.specs.declared.entry.Term.{Term}
use Rattle.terms.specs.Memory.{listed, most, Onward}
use Rattle.terms.specs.Reading.{Told, failed, got, got_all, failed_at, told_all, Begins, ReadsTree, ReadsTrees}
use Rattle.terms.specs.State.{Grown}
use Rattle.terms.specs.declared.list.TermList.{TermList}
use Rattle.terms.proofs.Midway.{Midway, finished, begins, room_left, stopped, onward, shrunk, some_token}

grown_on : (m₀ : List Term) (n₀ : ℕ) (m₁ : List Term) (n₁ : ℕ) (m₂ : List Term) (n₂ : ℕ) → Grown m₀ n₀ m₁ n₁ → Grown m₁ n₁ m₂ n₂ → Grown m₀ n₀ m₂ n₂
grown_on m₀ n₀ m₁ n₁ m₂ n₂ g h = record {
  more = omega (arith, g.more, h.more);
  kept =
      let front : (m : List Term) → take n₀ m ≡ take n₀ (take n₁ m) = λ m. sym (take-take n₀ n₁ m g.more) in
      front m₂ ∙ ap (take n₀) h.kept ∙ sym (front m₁) ∙ g.kept;
}

-- nothing was added
pub onward_none : (r : TermList) → Onward r r
onward_none r = record { names = refl; terms = refl; count = refl; long = refl; grown = record { more = omega arith; kept = refl } }

pub onward_on : (a b d : TermList) → Onward a b → Onward b d → Onward a d
onward_on a b d g h = record {
  names = h.names ∙ g.names;
  terms = h.terms ∙ g.terms;
  count = h.count ∙ g.count;
  long = h.long ∙ g.long;
  grown = grown_on _ _ _ _ _ _ g.grown h.grown;
}

pub same_names : (old now : TermList) → Onward old now → now.names.now ≡ old.names.now
same_names old now h = ap (λ (r : Bor (List Name)). r.now) h.names

pub same_room : (old now : TermList) → Onward old now → most now ≡ most old
same_room old now h = ap (min 4096) h.long

pub record Turn (old now : TermList) (all : List Tok) (done : List ℕ) (text : List Tok) : Type 0 where
  pub mid : Midway old.names.now (most old) all (listed old) done (listed now) text
  pub added : Onward old now
  pub below : AllByRecursion (λ k. k < now.count.now) done
  pub fewer : length text ≤ length all

module _ (old now : TermList) (all : List Tok) (done : List ℕ) (text : List Tok) (turn : Turn old now all done text) where
  pub turn_token : NoToken text → ⊥
  turn_token = some_token _ _ _ _ _ _ _ turn.mid

  pub turn_closed : (k : Token) (a : ℕ) (after : List Tok) → text ≡ seen k ∷ after → k ≡ token.Close a → ReadsTrees old.names.now (most old) all (listed old) (got_all done after) (listed now)
  turn_closed k a after e is = finished _ _ _ _ _ _ _ turn.mid a after (e ∙ ap (λ j. seen j ∷ after) is)

  module _ (k : Token) (after : List Tok) (e : text ≡ seen k ∷ after) (other : (a : ℕ) → k ≡ token.Close a → ⊥) where
    moved : (answer : Told) (new : List Term) → ReadsTree now.names.now (most now) false (seen k ∷ after) (listed now) answer new → ReadsTree old.names.now (most old) false (seen k ∷ after) (listed now) answer new
    moved answer new h =
        subst (λ names. ReadsTree names (most old) false (seen k ∷ after) (listed now) answer new) (same_names old now turn.added)
        (subst (λ room. ReadsTree now.names.now room false (seen k ∷ after) (listed now) answer new) (same_room old now turn.added) h)

    pub turn_begins : Begins (seen k ∷ after)
    turn_begins = begins _ _ _ _ _ _ _ turn.mid k after e other

    pub turn_room : length done < 64
    turn_room = room_left _ _ _ _ _ _ _ turn.mid k after e other

    pub turn_stopped : (f : TermFault) (new : List Term) → ReadsTree now.names.now (most now) false (seen k ∷ after) (listed now) (failed f) new → ReadsTrees old.names.now (most old) all (listed old) (failed_at f) new
    turn_stopped f new h = stopped _ _ _ _ _ _ _ turn.mid k after e other f new (moved (failed f) new h)

    module _ (number : ℕ) (behind : List Tok) (new : TermList) (h : ReadsTree now.names.now (most now) false (seen k ∷ after) (listed now) (got number behind) (listed new)) where
      pub turn_less : length behind < length text
      turn_less = shrunk _ _ _ _ _ _ _ turn.mid k after e other number behind (listed new) (moved (got number behind) (listed new) h)

      pub turn_next : Onward now new → number < new.count.now → (more : List ℕ) → more ≡ done ++ number ∷ [] → Turn old new all more behind
      turn_next added within more is =
          subst (λ d. Turn old new all d behind) (sym is)
          record {
            mid = onward _ _ _ _ _ _ _ turn.mid k after e other number behind (listed new) (moved (got number behind) (listed new) h);
            added = onward_on old now new turn.added added;
            below = All-push (λ j. j < new.count.now) done number (All-weaker (λ j. j < now.count.now) (λ j. j < new.count.now) (λ j lt. omega (arith, added.grown.more)) done turn.below) within;
            fewer = omega (arith, turn_less, turn.fewer);
          }

-- what an early return leaves to be shown: the fault is the one that was passed on
pub refused_all : (names : List Name) (most : ℕ) (text : List Tok) (old new : List Term) (r : Result (List ℕ × Reader) TermFault) (y f : TermFault) → r ≡ Err y → y ≡ f → ReadsTrees names most text old (failed_at f) new → ReadsTrees names most text old (told_all r) new
refused_all names most text old new r y f e g h =
    subst (λ q. ReadsTrees names most text old (told_all q) new) (sym (e ∙ ap Err g)) h
