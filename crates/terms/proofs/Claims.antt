-- Where a term begins there is a token.
use Rattle.std.proofs.Common.{◌≡◌, List, subst}
use Rattle.text.specs.Tokens.{Tok}
use Rattle.forms.specs.Takes.{NoToken}
use Rattle.forms.specs.Trees.{Tree, name, number, call, spell}
use Rattle.terms.specs.Reading.{Begins}

pub some_token : (text : List Tok) → Begins text → NoToken text → ⊥
some_token text b h = by_case b.1.tree b.1.spelt
  where
    by_case : (t : Tree) → text ≡ spell t b.0 → ⊥
    by_case (name a w) e = subst NoToken e h
    by_case (number a v) e = subst NoToken e h
    by_case (call a g w ts z) e = subst NoToken e h
