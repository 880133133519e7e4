use Rattle.std.proofs.Common.{◌≡◌, ◌<◌, length}
use Rattle.meaning.specs.Truth.{literal_of}
use Rattle.meaning.proofs.Literals.{turned}
use Rattle.meaning.proofs.terms.Terms.literal.Given as goal

abbrev pub invariant-loop-at : goal.invariant-loop-at
invariant-loop-at l = (l.at < length l.self) × (turned l.negative (literal_of l.self l.at) ≡ literal_of l.self l.n)

abbrev pub decreases-loop-at : goal.decreases-loop-at
decreases-loop-at l = l.at
