use Rattle.std.proofs.Common.{rules}
use Rattle.std.proofs.lemmas.Str.{is_utf8-from_IsUtf8, IsUtf8-from_is_utf8}
use Rattle.commands.specs.Shown.{name_shown}
use Rattle.commands.proofs.form.shown.Goals as goal

pub returns : goal.returns
unfolding name_shown
returns c = search (rules, is_utf8-from_IsUtf8, IsUtf8-from_is_utf8)
