-- What the referees mean together, and the cases that are worked by their definitions alone.
use Rattle.std.specs.Prelude.{List, ◌++◌}
use Rattle.referee.specs.Cases.{Case}
use Rattle.referee.specs.Meaning.{Meaning, pair}
use Rattle.chains.specs.Cases as chain
use Rattle.chains.specs.Rule.{chains}
use Rattle.connectives.specs.Cases as connective
use Rattle.connectives.specs.Rules.{connectives}
use Rattle.equality.specs.Cases as equal
use Rattle.equality.specs.Meaning.{equality}

-- The connectives first, then equality, then chains.
abbrev pub the_referees : Meaning
the_referees = pair connectives (pair equality chains)

-- All worked cases. A crate with more rules adds its own.
abbrev pub cases : List Case
cases = connective.cases ++ equal.cases ++ chain.cases
