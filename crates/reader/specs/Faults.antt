-- The number, the layer and the values of each fault of a script.
use Rattle.std.specs.Prelude.{ℕ, List, [], ◌∷◌}
use Rattle.kinds.specs.declared.denial.Layer.{Layer}
use Rattle.kinds.specs.declared.denial.Layer.TheVariants as layer
use Rattle.kinds.specs.Denials as lots
use Rattle.reader.specs.declared.fault.ScriptFault.{ScriptFault}
use Rattle.reader.specs.declared.fault.ScriptFault.TheVariants as fault

-- 14 to 18 are the script's own; a denial of the lot keeps its number
abbrev pub number_of : ScriptFault → ℕ
number_of (fault.UnknownCommand at) = 14
number_of (fault.CutShort at) = 15
number_of (fault.OutOfPhase at) = 16
number_of fault.TooLong = 17
number_of (fault.UnknownKind at) = 18
number_of (fault.Denied d) = lots.number_of d

-- and its layer
abbrev pub layer_of : ScriptFault → Layer
layer_of (fault.UnknownCommand at) = layer.Script
layer_of (fault.CutShort at) = layer.Script
layer_of (fault.OutOfPhase at) = layer.Script
layer_of fault.TooLong = layer.Script
layer_of (fault.UnknownKind at) = layer.Script
layer_of (fault.Denied d) = lots.layer_of d

-- the offset of the command; a script that is too long is refused at its start
abbrev pub values_of : ScriptFault → List ℕ
values_of (fault.UnknownCommand at) = at ∷ []
values_of (fault.CutShort at) = at ∷ []
values_of (fault.OutOfPhase at) = at ∷ []
values_of fault.TooLong = 0 ∷ []
values_of (fault.UnknownKind at) = at ∷ []
values_of (fault.Denied d) = lots.values_of d
