use Rattle.std.proofs.Common.{◌≡◌, ◌∙◌, true, false, length, sym, subst}
use Rattle.std.proofs.lemmas.List.{length_push}
use Rattle.std.proofs.lemmas.Iterator.Adapters.{YieldsList-from_rev_slice}
use Rattle.std.proofs.lemmas.Iterator.Consumers.{YieldsList-turn, YieldsList-end}
use Rattle.chains.specs.Sets.{holds, ButOne, AllOut, ButTwo}
use Rattle.chains.proofs.Tables.{Walk, walk_two, walk_known, walk_new, walk_on, walk_done, next_has, conflict, placed_one}
use Rattle.chains.proofs.search.Chain.pass.Goals as goal

pub returns-in-Nothing : goal.returns-in-Nothing
returns-in-Nothing c =
    let ps = c.args.self.now.premises.now in
    let q = c.in-Some.premise.now in
    let t = YieldsList-turn (YieldsList-from_rev_slice ps (cc)) c.loop-premise.yielded _ c.loop-premise.yielded_by _ _ c.in-Some.premise c.in-Some.is c.next.ensures.steps in
    record {
      onward = c.loop-premise.invariant.2.onward;
      ended = conflict ps c.loop-premise.known q (next_has ps (length c.loop-premise.yielded) q t.0 t.1)
          (subst (λ z. AllOut z c.loop-premise.known) c.literals.ensures.literals c.in-Nothing.ensures);
    }

pub add-requires : goal.add-requires
add-requires c =
    let ps = c.args.self.now.premises.now in
    let q = c.in-Some.premise.now in
    let t = YieldsList-turn (YieldsList-from_rev_slice ps (cc)) c.loop-premise.yielded _ c.loop-premise.yielded_by _ _ c.in-Some.premise c.in-Some.is c.next.ensures.steps in
    placed_one ps q c.loop-premise.known c.in-One.literal (next_has ps (length c.loop-premise.yielded) q t.0 t.1)
    (subst (λ z. ButOne z c.loop-premise.known c.in-One.literal) c.literals.ensures.literals c.in-One.ensures) c.args.self.now.premises_placed

pub loop-premise-preserved-then-not-has : goal.loop-premise-preserved-then-not-has
loop-premise-preserved-then-not-has c =
    let ps = c.args.self.now.premises.now in
    let q = c.in-Some.premise.now in
    let n = length c.loop-premise.yielded in
    let t = YieldsList-turn (YieldsList-from_rev_slice ps (cc)) c.loop-premise.yielded _ c.loop-premise.yielded_by _ _ c.in-Some.premise c.in-Some.is c.next.ensures.steps in
    let s = c.loop-premise.known in
    let u = c.in-One.literal in
    let f : ButOne q s u = subst (λ z. ButOne z s u) c.literals.ensures.literals c.in-One.ensures in
    let out : holds s u ≡ false = sym c.has.ensures ∙ c.if-not-has.true in
    let w = walk_new ps _ c.args.known.now s c.loop-premise.grew q c.loop-premise.invariant.2 (next_has ps n q t.0 t.1) u f c.add.ensures.within out c.add.new.self c.add.ensures.one_more in
    (tt, tt, walk_on ps n q t.0 t.1 _ (length_push c.loop-premise.yielded c.in-Some.premise) c.args.known.now c.add.new.self true w)

pub loop-premise-preserved-else-not-has : goal.loop-premise-preserved-else-not-has
loop-premise-preserved-else-not-has c =
    let ps = c.args.self.now.premises.now in
    let q = c.in-Some.premise.now in
    let n = length c.loop-premise.yielded in
    let t = YieldsList-turn (YieldsList-from_rev_slice ps (cc)) c.loop-premise.yielded _ c.loop-premise.yielded_by _ _ c.in-Some.premise c.in-Some.is c.next.ensures.steps in
    let s = c.loop-premise.known in
    let u = c.in-One.literal in
    let f : ButOne q s u = subst (λ z. ButOne z s u) c.literals.ensures.literals c.in-One.ensures in
    let known : holds s u ≡ true = sym c.has.ensures ∙ c.if-not-has.false in
    let w = walk_known ps _ c.args.known.now s c.loop-premise.grew q c.loop-premise.invariant.2 u f known in
    (tt, tt, walk_on ps n q t.0 t.1 _ (length_push c.loop-premise.yielded c.in-Some.premise) c.args.known.now s c.loop-premise.grew w)

pub loop-premise-preserved : goal.loop-premise-preserved
loop-premise-preserved c =
    let ps = c.args.self.now.premises.now in
    let q = c.in-Some.premise.now in
    let n = length c.loop-premise.yielded in
    let t = YieldsList-turn (YieldsList-from_rev_slice ps (cc)) c.loop-premise.yielded _ c.loop-premise.yielded_by _ _ c.in-Some.premise c.in-Some.is c.next.ensures.steps in
    let s = c.loop-premise.known in
    let f : ButTwo q s = subst (λ z. ButTwo z s) c.literals.ensures.literals c.in-More.ensures in
    let w = walk_two ps _ c.args.known.now s c.loop-premise.grew q c.loop-premise.invariant.2 f in
    (tt, tt, walk_on ps n q t.0 t.1 _ (length_push c.loop-premise.yielded c.in-Some.premise) c.args.known.now s c.loop-premise.grew w)

pub returns-else-grew : goal.returns-else-grew
returns-else-grew c =
    let ps = c.args.self.now.premises.now in
    let t = YieldsList-end (YieldsList-from_rev_slice ps (cc)) c.loop-premise.yielded _ c.loop-premise.yielded_by _ _ c.in-None.is c.next.ensures.steps in
    let w = c.loop-premise.invariant.2 in
    record {
      onward = w.onward;
      ended = walk_done ps (length c.loop-premise.yielded) c.args.known.now c.loop-premise.known t.1 (subst (Walk ps _ _ _) c.if-grew.false w);
    }
