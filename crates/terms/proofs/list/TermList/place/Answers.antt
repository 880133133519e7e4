use Rattle.std.proofs.Common.{◌≡◌, true, take, sym, refl, subst}
use Rattle.entries.specs.Filing.{room}
use Rattle.terms.specs.Reads.{fitting, made}
use Rattle.terms.specs.State.{Does}
use Rattle.terms.proofs.Placing.{fitted, same_entry, filed, filed_ready, filed_grown}
use Rattle.terms.proofs.list.TermList.place.Goals as goal

pub invariant_of-self-2 : goal.invariant_of-self-2
invariant_of-self-2 c =
    let names = c.args.self.now.names.now in
    let memory = c.args.self.now.terms.now in
    let n = c.args.self.now.count.now in
    let fit : fitting names c.args.wants (take n memory) c.args.head c.args.args.now ≡ true = fitted names memory n c.args.wants c.args.at c.args.head c.args.args.now _ c.new-standing.ensures _ _ _ c.well_formed-2.ensures c.if-not-well_formed.false c.gives_sort-sort.ensures c.suits.ensures c.if-not-suits.false in
    let is = same_entry names memory n c.args.wants c.args.at c.args.head c.args.args.now _ _ c.gives_sort-sort.ensures c.requires.few c.new.ensures in
    record {
      few_names = c.args.self.now.few_names;
      ready = filed_ready names memory n c.args.wants c.args.at c.args.head c.args.args.now c.args.self.now.ready c.requires.within c.requires.few fit (room 4096 memory) c.new.result is c.intern.result c.intern.new.terms c.intern.new.count c.intern.ensures.fits c.intern.ensures.filed;
    }

pub returns-clause-does : goal.returns-clause-does
returns-clause-does c =
    let names = c.args.self.now.names.now in
    let memory = c.args.self.now.terms.now in
    let n = c.args.self.now.count.now in
    let fit : fitting names c.args.wants (take n memory) c.args.head c.args.args.now ≡ true = fitted names memory n c.args.wants c.args.at c.args.head c.args.args.now _ c.new-standing.ensures _ _ _ c.well_formed-2.ensures c.if-not-well_formed.false c.gives_sort-sort.ensures c.suits.ensures c.if-not-suits.false in
    let is = same_entry names memory n c.args.wants c.args.at c.args.head c.args.args.now _ _ c.gives_sort-sort.ensures c.requires.few c.new.ensures in
    subst (λ r. Does (made names (room 4096 memory) c.args.wants c.args.at c.args.head c.args.args.now (take n memory)) r (take c.intern.new.count c.intern.new.terms)) (sym c.ok_or.ensures.value)
    (filed names memory n c.args.wants c.args.at c.args.head c.args.args.now (room 4096 memory) c.new.result is (take c.intern.new.count c.intern.new.terms) fit c.intern.result c.intern.ensures.filed)

pub returns-clause-onward : goal.returns-clause-onward
returns-clause-onward c =
    let names = c.args.self.now.names.now in
    let memory = c.args.self.now.terms.now in
    let n = c.args.self.now.count.now in
    let fit : fitting names c.args.wants (take n memory) c.args.head c.args.args.now ≡ true = fitted names memory n c.args.wants c.args.at c.args.head c.args.args.now _ c.new-standing.ensures _ _ _ c.well_formed-2.ensures c.if-not-well_formed.false c.gives_sort-sort.ensures c.suits.ensures c.if-not-suits.false in
    let is = same_entry names memory n c.args.wants c.args.at c.args.head c.args.args.now _ _ c.gives_sort-sort.ensures c.requires.few c.new.ensures in
    record {
      names = refl;
      terms = refl;
      count = refl;
      long = c.intern.auto.terms;
      grown = filed_grown names memory n c.args.wants c.args.at c.args.head c.args.args.now c.args.self.now.ready c.requires.within c.requires.few fit (room 4096 memory) c.new.result is c.intern.result c.intern.new.terms c.intern.new.count c.intern.ensures.fits c.intern.ensures.filed;
    }
