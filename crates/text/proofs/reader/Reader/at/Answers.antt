use Rattle.std.proofs.Common.{refl}
use Rattle.text.specs.Reading.{left}
use Rattle.text.proofs.reader.Reader.at.Goals as goal

pub returns : goal.returns
unfolding left
returns c = refl
