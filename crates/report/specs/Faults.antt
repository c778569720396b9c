-- What a line fault tells: its number, layer and place. Assumes nothing.
use Rattle.rfc4180.specs.declared.faults.Diagnostic.{Diagnostic}
use Rattle.rfc4180.specs.declared.faults.Layer.TheVariants.{Line}
use Rattle.rfc4180.specs.Faults.{text_diagnostic}
use Rattle.report.specs.declared.faults.LineFault.{LineFault}
use Rattle.report.specs.declared.faults.LineFault.TheVariants.{Text, FieldCount, FieldKind}

-- 12: another number of fields; 13: a field that is not of its kind or out of its range; and the text's own faults
abbrev pub line_diagnostic : LineFault → Diagnostic
line_diagnostic (Text fault) = text_diagnostic fault
line_diagnostic (FieldCount at) = record { number = 12; layer = Line; at = at }
line_diagnostic (FieldKind at) = record { number = 13; layer = Line; at = at }
