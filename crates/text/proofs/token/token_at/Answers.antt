use Rattle.std.proofs.Common.{rules}
use Rattle.text.proofs.Lexing.{keyword_at}
use Rattle.text.proofs.token.token_at.Goals as goal

pub returns-in-Colon : goal.returns-in-Colon
returns-in-Colon c = search (rules, keyword_at)
