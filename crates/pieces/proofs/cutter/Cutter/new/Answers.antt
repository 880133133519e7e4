use Rattle.std.proofs.Common.{refl}
use Rattle.pieces.specs.Cutting.{left}
use Rattle.pieces.proofs.Cutting.{cut, few_pieces, size_fits}
use Rattle.pieces.proofs.cutter.Cutter.new.Goals as goal

pub returns : goal.returns
unfolding left
returns c = record { all = refl; few = few_pieces c.args.text.now; fits = size_fits c.args.text.now; law = cut c.args.text.now }
