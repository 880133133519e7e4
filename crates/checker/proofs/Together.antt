-- The referees together: the law, and the worked cases by one computed test.
use Rattle.std.proofs.Common.{refl}
use Rattle.referee.specs.Cases.{Worked}
use Rattle.referee.specs.Meaning.{Lawful, pair}
use Rattle.referee.specs.Laws.{pairs_keep}
use Rattle.referee.proofs.Worked.{all_worked}
use Rattle.chains.specs.Rule.{chains}
use Rattle.chains.specs.Lawful.{chains_lawful}
use Rattle.connectives.specs.Rules.{connectives}
use Rattle.connectives.specs.Table.{table}
use Rattle.connectives.specs.Valid.{connectives_lawful}
use Rattle.equality.specs.Meaning.{equality}
use Rattle.equality.specs.Lawful.{equality_lawful}
use Rattle.checker.specs.Referees.{the_referees, cases}

pub together_lawful : Lawful the_referees
together_lawful = pairs_keep connectives (pair equality chains) connectives_lawful (pairs_keep equality chains equality_lawful chains_lawful)

pub cases_worked : Worked the_referees cases
unfolding table
cases_worked = all_worked the_referees cases refl
