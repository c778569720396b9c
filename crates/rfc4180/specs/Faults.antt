-- What a text fault tells: its number, layer and place. Assumes nothing.
use Rattle.std.specs.Prelude.{ℕ, List, codes}
use Rattle.rfc4180.specs.declared.faults.Diagnostic.{Diagnostic}
use Rattle.rfc4180.specs.declared.faults.Layer.{Layer}
use Rattle.rfc4180.specs.declared.faults.Layer.TheVariants.{Text, Line, Feed}
use Rattle.rfc4180.specs.declared.faults.TextFault.{TextFault}
use Rattle.rfc4180.specs.declared.faults.TextFault.TheVariants.{NotAllowed, Unclosed}

-- 9: a byte that is not allowed where it stands; 11: the text ends inside quotation marks
abbrev pub text_diagnostic : TextFault → Diagnostic
text_diagnostic (NotAllowed at field) = record { number = 9; layer = Text; at = at }
text_diagnostic (Unclosed at field) = record { number = 11; layer = Text; at = at }

-- the first byte of the field that is spoilt
abbrev pub faulty_field : TextFault → ℕ
faulty_field (NotAllowed at field) = field
faulty_field (Unclosed at field) = field

-- a layer's name, as users are shown it
abbrev pub layer_name : Layer → List ℕ
layer_name Text = codes "text"
layer_name Line = codes "line"
layer_name Feed = codes "feed"
