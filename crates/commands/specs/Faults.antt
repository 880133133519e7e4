-- The faults of a command: their numbers, places, layers and words.
use Rattle.std.specs.Prelude.{ℕ, List, codes}
use Rattle.text.specs.Tokens as token
use Rattle.forms.specs.Faults as form
use Rattle.commands.specs.declared.fault.Fault.{Fault}
use Rattle.commands.specs.declared.fault.Fault.TheVariants.{Token, Form}
use Rattle.commands.specs.declared.fault.Layer.{Layer}
use Rattle.commands.specs.declared.fault.Layer.TheVariants as layer

-- The number that people see for a fault.
abbrev pub number_of : Fault → ℕ
number_of (Token f) = token.number_of f
number_of (Form f) = form.number_of f

-- The place of a fault.
abbrev pub place_of : Fault → ℕ
place_of (Token f) = token.place_of f
place_of (Form f) = form.place_of f

-- The layer that a fault belongs to.
abbrev pub layer_of : Fault → Layer
layer_of (Token f) = layer.Tokens
layer_of (Form f) = layer.Form

-- What people read of a fault.
abbrev pub message_of : Fault → List ℕ
message_of (Token f) = token.message_of f
message_of (Form f) = form.message_of f

-- The name of a layer.
abbrev pub name_of : Layer → List ℕ
name_of layer.Tokens = codes "tokens"
name_of layer.Form = codes "form"
