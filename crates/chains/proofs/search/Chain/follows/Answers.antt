use Rattle.std.proofs.Common.{refl, rules, tests}
use Rattle.std.proofs.lemmas.Bool.{false≢true}
use Rattle.chains.specs.Sets.{Clash, Seeds}
use Rattle.chains.proofs.Tables.{clash, state_first, state_more, state_still}
use Rattle.chains.proofs.search.Chain.follows.Goals as goal

pub returns-then-is_none : goal.returns-then-is_none
returns-then-is_none c =
    let k : Clash c.args.self.now.clause.now = search (rules, tests) in
    ((λ _. clash c.args.self.now.clause.now c.args.self.now.premises.now k), λ _. refl)

pub loop-init : goal.loop-init
loop-init c =
    let k : Seeds c.args.self.now.clause.now c.seed.new.known = search (rules, tests) in
    state_first c.args.self.now.clause.now c.args.self.now.premises.now c.seed.new.known k

pub returns-in-Conflict : goal.returns-in-Conflict
returns-in-Conflict c =
    let clause = c.args.self.now.clause.now in
    let y = c.in-Conflict.ensures.ended clause (c.pass.ensures.onward.sound clause c.loop.invariant.sound) in
    ((λ _. y), λ _. refl)

pub returns-in-Still : goal.returns-in-Still
returns-in-Still c =
    let clause = c.args.self.now.clause.now in
    let premises = c.args.self.now.premises.now in
    let state = state_more clause premises c.loop.known c.pass.new.known c.loop.invariant c.pass.ensures.onward in
    ((λ e. absurd (false≢true e)), λ r. absurd (state_still clause premises c.pass.new.known state c.in-Still.ensures.ended r))
