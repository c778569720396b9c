-- What a fault of feeding tells: its number, layer and place. Assumes nothing.
use Rattle.rfc4180.specs.declared.faults.Diagnostic.{Diagnostic}
use Rattle.rfc4180.specs.declared.faults.Layer.TheVariants as layer
use Rattle.report.specs.Faults.{line_diagnostic}
use Rattle.rules.specs.declared.refusals.Refusal.{Refusal}
use Rattle.rules.specs.Refusals.{refusal_number, refusal_column}
use Rattle.intake.specs.declared.faults.FeedFault.{FeedFault}
use Rattle.intake.specs.declared.faults.FeedFault.TheVariants.{Line, Feed}
use Rattle.intake.specs.declared.faults.FeedRefusal.{FeedRefusal}

-- the refusal of a record that came from no line
abbrev pub of_no_line : Refusal → FeedRefusal
of_no_line e = record { refusal = e; line = 0; byte = 0 }

-- the refusal's number and column, and the line's place: 14 at the column at fault, and 15, 16 and 17 at none
abbrev pub refusal_diagnostic : FeedRefusal → Diagnostic
refusal_diagnostic f =
    record { number = refusal_number f.refusal; layer = layer.Feed; at = record { line = f.line; column = refusal_column f.refusal; byte = f.byte } }

-- a fault of the line tells what it told before
abbrev pub feed_diagnostic : FeedFault → Diagnostic
feed_diagnostic (Line fault) = line_diagnostic fault
feed_diagnostic (Feed f) = refusal_diagnostic f
