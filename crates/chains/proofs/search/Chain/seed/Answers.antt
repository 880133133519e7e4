use Rattle.std.proofs.Common.{◌≡◌, ◌<◌, ◌∙◌, [], false, length, take, sym, ap, subst}
use Rattle.entries.specs.Clauses.{complement_of}
use Rattle.chains.specs.Sets.{place_of, holds, Seeds}
use Rattle.chains.proofs.Tables.{read, with_one, seeds_none, seeds_more, clash_at, take_read, has_take, has_read}
use Rattle.chains.proofs.search.Chain.seed.Goals as goal

pub loop-literal-init : goal.loop-literal-init
loop-literal-init c = subst (Seeds []) (sym c.requires) (seeds_none 8192)

pub returns-then-has : goal.returns-then-has
returns-then-has c =
    let clause = c.args.self.now.clause.now in
    let i = c.loop-literal.literal-index in
    clash_at clause (take i clause) c.loop-literal.known (read clause i) (has_take i clause) c.loop-literal.invariant (has_read clause i c.loop-literal-test.true) (sym c.has.ensures ∙ c.if-has.true)

pub loop-literal-preserved : goal.loop-literal-preserved
loop-literal-preserved c =
    let clause = c.args.self.now.clause.now in
    let i = c.loop-literal.literal-index in
    let s = c.loop-literal.known in
    let x = read clause i in
    let out : holds s x ≡ false = sym c.has.ensures ∙ c.if-has.false in
    let grown : c.add.new.self ≡ with_one s (complement_of x) = c.add.ensures.one_more ∙ ap (with_one s) c.complement-denied.ensures in
    let within : place_of (complement_of x) < length s = subst (λ z. place_of z < length s) c.complement-denied.ensures c.add.ensures.within in
    subst (λ z. Seeds z c.add.new.self) (sym (take_read clause i c.loop-literal-test.true))
    (subst (Seeds _) (sym grown) (seeds_more (take i clause) s x within out c.loop-literal.invariant))
