use Rattle.std.proofs.Common.{◌≡◌, ℕ, ◌≤◌, List, ◌∷◌, length}
use Rattle.forms.specs.Trees.{Trees, count, spells, Fits}
use Rattle.forms.specs.declared.item.Item.TheVariants.{Symbol}
use Rattle.text.specs.Reading.{left}
use Rattle.text.specs.Tokens.{Tok, closes}
use Rattle.declarations.proofs.Signatures.{Left}
use Rattle.declarations.proofs.signature.sorts_of.Given as goal

abbrev pub invariant-loop : goal.invariant-loop
invariant-loop l = record {
  many : length l.sorts ≡ l.counter;
  left_of : (ts : Trees) (end : ℕ) (rest : List Tok) → count ts ≤ 64 → Fits Symbol ts → left l.reader ≡ spells ts (closes end ∷ rest) →
      Left l.known.sorts.now ts (closes end ∷ rest) l.counter l.sorts (left l.rest);
}
