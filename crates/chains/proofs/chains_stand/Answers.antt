use Rattle.std.proofs.Common.{refl}
use Rattle.chains.specs.Entails.{chain_law}
use Rattle.chains.proofs.Closures.{closure_is_least, chains_decided}
use Rattle.chains.proofs.Rulings.{rulings_in_words}
use Rattle.chains.proofs.chains_stand.Goals as goal

pub returns : goal.returns
returns c = record { law = chain_law; least = closure_is_least; decided = chains_decided; words = rulings_in_words; stands = refl }
