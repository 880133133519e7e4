use Rattle.std.proofs.Common.{◌≡◌, ◌+◌, true, false, length, drop, MatchOption, ◌<◌, sym, ◌∙◌, subst, rules, tests}
use Rattle.std.specs.List.{list_all, AllWithin, HoldsAt}
use Rattle.std.proofs.lemmas.Iterator.{YieldsList-from_slice, IsFirst-from_position}
use Rattle.std.proofs.lemmas.Iterator.Search.{all_from_yields_List}
use Rattle.chains.proofs.Tables.{read, Out, Open, is_out, from_place, left_none, left_one, left_two}
use Rattle.chains.proofs.search.look.Goals as goal

pub returns-in-None : goal.returns-in-None
returns-in-None c =
    let p = c.args.premise.now in
    let s = c.args.known.now in
    let e = IsFirst-from_position _ _ c.position.result (Open s) (Out s) c.position.ensures.ran (YieldsList-from_slice p (cc)) (λ x q k. search (rules, tests)) (λ x q k. search (rules, tests)) in
    left_none p s (subst (λ o. MatchOption o (AllWithin (Out s) p 0 (length p)) (λ i. (i < length p) × HoldsAt (Open s) p i × AllWithin (Out s) p 0 i)) c.in-None.is e)

pub returns-then-all : goal.returns-then-all
returns-then-all c =
    let p = c.args.premise.now in
    let s = c.args.known.now in
    let at = c.in-Some.at in
    let e = IsFirst-from_position _ _ c.position.result (Open s) (Out s) c.position.ensures.ran (YieldsList-from_slice p (cc)) (λ x q k. search (rules, tests)) (λ x q k. search (rules, tests)) in
    let w : (at < length p) × HoldsAt (Open s) p at × AllWithin (Out s) p 0 at =
    subst (λ o. MatchOption o (AllWithin (Out s) p 0 (length p)) (λ i. (i < length p) × HoldsAt (Open s) p i × AllWithin (Out s) p 0 i)) c.in-Some.is e in
    let a = all_from_yields_List (is_out s (read p at)) _ _ c.all.result c.all.ensures.ran (YieldsList-from_slice (drop (at + 1) p) (c.iter-in-Some.ensures.rest ∙ from_place p (at + 1))) (λ x b q k. search (rules, tests)) in
    let t : list_all (is_out s (read p at)) (drop (at + 1) p) ≡ true = sym a ∙ c.if-all.true in
    left_one p s at w.0 w.1 w.2 t

pub returns-else-all : goal.returns-else-all
returns-else-all c =
    let p = c.args.premise.now in
    let s = c.args.known.now in
    let at = c.in-Some.at in
    let e = IsFirst-from_position _ _ c.position.result (Open s) (Out s) c.position.ensures.ran (YieldsList-from_slice p (cc)) (λ x q k. search (rules, tests)) (λ x q k. search (rules, tests)) in
    let w : (at < length p) × HoldsAt (Open s) p at × AllWithin (Out s) p 0 at =
    subst (λ o. MatchOption o (AllWithin (Out s) p 0 (length p)) (λ i. (i < length p) × HoldsAt (Open s) p i × AllWithin (Out s) p 0 i)) c.in-Some.is e in
    let a = all_from_yields_List (is_out s (read p at)) _ _ c.all.result c.all.ensures.ran (YieldsList-from_slice (drop (at + 1) p) (c.iter-in-Some.ensures.rest ∙ from_place p (at + 1))) (λ x b q k. search (rules, tests)) in
    let t : list_all (is_out s (read p at)) (drop (at + 1) p) ≡ false = sym a ∙ c.if-all.false in
    left_two p s at w.0 w.1 t
