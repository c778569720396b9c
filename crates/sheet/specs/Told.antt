-- What the answer to a header tells besides the sheet. Assumes nothing.
use Rattle.std.specs.Prelude.{ℕ, Ok, Err, Result}
use Rattle.sheet.specs.declared.faults.HeaderFault.{HeaderFault}
use Rattle.sheet.specs.declared.sheets.HeadedSheet.{HeadedSheet}
use Rattle.sheet.specs.declared.sheets.HeaderRefused.{HeaderRefused}

-- the bytes written, or the fault
abbrev pub told_header : Result (HeadedSheet × ℕ) HeaderRefused → Result ℕ HeaderFault
told_header (Ok t) = Ok t.1
told_header (Err e) = Err e.fault
