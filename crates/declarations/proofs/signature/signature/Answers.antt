use Rattle.std.proofs.lemmas.Result.{err_from_is_err_and}
use Rattle.forms.specs.Parsed.{named}
use Rattle.declarations.proofs.Makings.{same_name, same_gives, inside, listed, takes_unknown, gives_unknown, makes}
use Rattle.declarations.proofs.signature.signature.Goals as goal

pub sorts_of-requires : goal.sorts_of-requires
sorts_of-requires c =
    let f = c.args.declared in
    listed c.args.text.now (named f.name) f.takes (named f.gives) c.requires.0 c.requires.1 _ _ c.next.result c.at-reader.ensures c.next.ensures

pub returns-in_err-takes : goal.returns-in_err-takes
returns-in_err-takes c t d =
    let f = c.args.declared in
    let p = err_from_is_err_and c.from_residual.result c.from_residual.ensures.1 in
    let begun = inside c.args.text.now (named f.name) f.takes (named f.gives) t d _ _ c.next.result c.at-reader.ensures c.next.ensures in
    rw (p.1, p.2)
    (takes_unknown c.args.known.now.sorts.now t _ (c.in_err-takes.ensures t.takes t.right _ d.fit.0 d.fit.1 begun))

pub returns-in_err-gives : goal.returns-in_err-gives
returns-in_err-gives c t d =
    let f = c.args.declared in
    let p = err_from_is_err_and c.from_residual-in_err-gives.result c.from_residual-in_err-gives.ensures.1 in
    let begun = inside c.args.text.now (named f.name) f.takes (named f.gives) t d _ _ c.next.result c.at-reader.ensures c.next.ensures in
    let read = c.in_ok-takes.ensures t.takes t.right _ d.fit.0 d.fit.1 begun in
    rw (p.1, p.2)
    (gives_unknown c.args.known.now.sorts.now t _ read (named f.gives)
    (same_gives c.args.text.now (named f.name) f.takes (named f.gives) t d) _ c.in_err-gives.ensures)

pub returns : goal.returns
returns c t d =
    let f = c.args.declared in
    let begun = inside c.args.text.now (named f.name) f.takes (named f.gives) t d _ _ c.next.result c.at-reader.ensures c.next.ensures in
    let read = c.in_ok-takes.ensures t.takes t.right _ d.fit.0 d.fit.1 begun in
    makes c.args.known.now.sorts.now t _ read (named f.gives)
    (same_gives c.args.text.now (named f.name) f.takes (named f.gives) t d) c.in_ok-gives.gives c.in_ok-gives.ensures
    (named f.name) (same_name c.args.text.now (named f.name) f.takes (named f.gives) t d) c.new.result c.new.ensures
