use Rattle.std.proofs.Common.{rules, tests, sym, ap, ◌∙◌}
use Rattle.std.specs.List.{list_all}
use Rattle.std.proofs.lemmas.Iterator.{YieldsList-from_slice}
use Rattle.std.proofs.lemmas.Iterator.Search.{all_from_yields_List}
use Rattle.entries.specs.declared.entry.Literal.{Literal}
use Rattle.entries.specs.Clauses.{holds_literal}
use Rattle.meaning.specs.Truth.{literal_of}
use Rattle.meaning.proofs.Values.{every_map}
use Rattle.connectives.specs.Rules.{turned_by}
use Rattle.connectives.proofs.choice.Literals.all_in.Goals as goal

pub returns : goal.returns
returns c =
    let ns = c.self.inside.numbers.now in
    let f = λ (n : _). turned_by c.self.inside.negative (literal_of c.self.inside.terms.now n) in
    let g = λ (m : Literal). holds_literal c.args.clause.now m in
    all_from_yields_List (λ n. g (f n)) _ _ _ c.all.ensures.ran (YieldsList-from_slice ns cc) (λ x b q k. search (rules, tests))
    ∙ sym (every_map f g ns) ∙ ap (list_all g) c.self.view_is
