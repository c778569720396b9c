-- The line of print for one report line. Assumes nothing.
use Rattle.std.specs.Prelude.{ℕ, List, ◌++◌, Ok, Err, codes, decimal, Result, slice_index}
use Rattle.std.specs.Fmt.{signed_decimal}
use Rattle.rfc4180.specs.declared.faults.Diagnostic.{Diagnostic}
use Rattle.rfc4180.specs.Faults.{layer_name}
use Rattle.report.specs.declared.columns.Report.{Report}
use Rattle.report.specs.declared.faults.LineFault.{LineFault}
use Rattle.report.specs.Faults.{line_diagnostic}

abbrev pub taken_text : Report → List ℕ
taken_text r =
    codes "line " ++ (decimal r.line ++ (codes ": owner " ++ (decimal r.owner ++ (codes ", width " ++ (decimal (slice_index r.values 0)
    ++ (codes ", model " ++ (decimal (slice_index r.values 1) ++ (codes ", reading " ++ signed_decimal r.reading))))))))

abbrev pub turned_away_text : Diagnostic → List ℕ
turned_away_text d =
    codes "line " ++ (decimal d.at.line ++ (codes ": turned away, " ++ (decimal d.number ++ (codes " (" ++ (layer_name d.layer
    ++ (codes ") at column " ++ (decimal d.at.column ++ (codes ", byte " ++ decimal d.at.byte))))))))

abbrev pub entry_text : Result Report LineFault → List ℕ
entry_text (Ok r) = taken_text r
entry_text (Err e) = turned_away_text (line_diagnostic e)
