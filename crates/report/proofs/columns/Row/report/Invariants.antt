use Rattle.std.proofs.Common.{map}
use Rattle.rfc4180.specs.Told.{field_text}
use Rattle.report.proofs.columns.Row.report.Given as goal
use Rattle.report.proofs.Parsed.{Sofar}

abbrev pub invariant-loop-i : goal.invariant-loop-i
invariant-loop-i l = Sofar (map field_text l.self.fields.now) l.width l.owner l.i l.value-items
