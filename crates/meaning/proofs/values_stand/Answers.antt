use Rattle.std.proofs.Common.{refl}
use Rattle.meaning.proofs.Clauses.{clauses_written}
use Rattle.meaning.proofs.Propers.{proper_push, proper_names}
use Rattle.meaning.proofs.Values.{values_kept, bool_bits, true_at_one}
use Rattle.meaning.proofs.values_stand.Goals as goal

pub returns : goal.returns
returns c = record { kept = values_kept; bits = bool_bits; truth = true_at_one; proper = proper_push; names = proper_names; clauses = clauses_written; stands = refl }
