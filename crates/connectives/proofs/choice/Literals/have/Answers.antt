use Rattle.std.proofs.Common.{rules, tests, sym, ap, ◌∙◌}
use Rattle.std.specs.List.{list_any}
use Rattle.std.proofs.lemmas.Iterator.{YieldsList-from_slice}
use Rattle.std.proofs.lemmas.Iterator.Search.{any_from_yields_List}
use Rattle.entries.specs.declared.entry.Literal.{Literal}
use Rattle.entries.specs.Equality.{same_literal}
use Rattle.meaning.specs.Truth.{literal_of}
use Rattle.meaning.proofs.Values.{some_map}
use Rattle.connectives.specs.Rules.{turned_by}
use Rattle.connectives.proofs.choice.Literals.have.Goals as goal

pub returns : goal.returns
returns c =
    let ns = c.self.inside.numbers.now in
    let f = λ (n : _). turned_by c.self.inside.negative (literal_of c.self.inside.terms.now n) in
    let g = λ (m : Literal). same_literal m c.args.l in
    any_from_yields_List (λ n. g (f n)) _ _ _ c.any.ensures.ran (YieldsList-from_slice ns cc) (λ x b q k. search (rules, tests))
    ∙ sym (some_map f g ns) ∙ ap (list_any g) c.self.view_is
