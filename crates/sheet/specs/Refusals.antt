-- The number under which each refusal is known. Assumes nothing.
use Rattle.std.specs.Prelude.{ℕ}
use Rattle.rfc4180.specs.Faults.{text_diagnostic}
use Rattle.sheet.specs.declared.faults.BeginFault.{BeginFault}
use Rattle.sheet.specs.declared.faults.BeginFault.TheVariants.{Width}
use Rattle.sheet.specs.declared.faults.HeaderFault.{HeaderFault}
use Rattle.sheet.specs.declared.faults.HeaderFault.TheVariants.{Text, Fields, AreaTooShort}
use Rattle.sheet.specs.declared.faults.RowFault.{RowFault}
use Rattle.sheet.specs.declared.faults.RowFault.TheVariants as row

abbrev pub begin_number : BeginFault → ℕ
begin_number Width = 1

-- 9 and 11 are those of the text
abbrev pub header_number : HeaderFault → ℕ
header_number (Text fault) = (text_diagnostic fault).number
header_number (Fields found wanted) = 12
header_number (AreaTooShort needed) = 18

abbrev pub row_number : RowFault → ℕ
row_number row.Full = 16
row_number (row.AreaTooShort needed) = 18
