use Rattle.std.proofs.Common.{ℕ, ◌∙◌, sym, rules, tests}
use Rattle.std.specs.List.{zip}
use Rattle.std.proofs.lemmas.Iterator.{YieldsList-from_slice, YieldsList-from_zip}
use Rattle.std.proofs.lemmas.Iterator.Consumers.{YieldsList-at}
use Rattle.std.proofs.lemmas.Iterator.Search.{all_from_yields_List}
use Rattle.std.proofs.lemmas.List.Folds.{list_all-map}
use Rattle.equality.specs.Rules.{granted, sides_of_pair}
use Rattle.equality.proofs.cong.all_granted.Goals as goal

pub returns : goal.returns
returns c =
    let test = granted c.args.terms.now c.args.premises.now in
    let both =
    YieldsList-from_zip {s = c.zip.result} (YieldsList-at c.zip.ensures.first (YieldsList-from_slice c.args.left.now c.iter.ensures.rest))
    (YieldsList-from_slice c.args.right.now c.zip.ensures.second.0) in
    all_from_yields_List {s = c.zip.result} (λ (p : ℕ × ℕ). test (sides_of_pair p)) c.all.new.self _ c.all.result c.all.ensures.ran both (λ x b q k. search (rules, tests))
    ∙ sym (list_all-map test sides_of_pair (zip c.args.left.now c.args.right.now))
