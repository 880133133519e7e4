use Rattle.std.proofs.Common.{refl}
use Rattle.text.specs.Reading.{left}
use Rattle.text.proofs.Lexing.{few_tokens}
use Rattle.text.proofs.reader.Reader.new.Goals as goal

pub returns : goal.returns
unfolding left
returns c = record { all = refl; few = few_tokens c.args.text.now }
