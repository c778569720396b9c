-- What the calls on a sheet answer, the first refusal that fits, and what they leave in the text area. Assumes nothing.
use Rattle.std.specs.Prelude.{ℕ, ◌+◌, ◌-◌, cond, List, ◌++◌, length, drop, Ok, Err, Result, ◌==◌, nat_le, nat_lt}
use Rattle.rfc4180.specs.Reading.{LineRead, cut, damaged}
use Rattle.rfc4180.specs.Told.{text_fault, field_behind}
use Rattle.rfc4180.specs.declared.faults.TextFault.{TextFault}
use Rattle.rfc4180.specs.declared.faults.TextFault.TheVariants.{NotAllowed}
use Rattle.sheet.specs.declared.faults.HeaderFault.{HeaderFault}
use Rattle.sheet.specs.declared.faults.HeaderFault.TheVariants as header
use Rattle.sheet.specs.declared.faults.RowFault.{RowFault}
use Rattle.sheet.specs.declared.faults.RowFault.TheVariants as row
use Rattle.sheet.specs.Limits.{max_rows}
use Rattle.sheet.specs.Rows.{line_bytes}

-- the byte behind the header's line offends: it begins a second line
abbrev pub second_line : ℕ → TextFault
second_line byte = NotAllowed (record { line = 2; column = 1; byte = byte }) byte

-- a header's line of this size in an area with this room
abbrev pub room_answer : (room size : ℕ) → Result ℕ HeaderFault
room_answer room size = cond (nat_lt room size) (Err (header.AreaTooShort size)) (Ok size)

-- a header of this size whose first line was read so, on a sheet of this width, for an area with this room: the bytes
-- written or the refusal
abbrev pub header_answer : (width room size : ℕ) → LineRead → Result ℕ HeaderFault
header_answer width room size (damaged front w n) = Err (header.Text (text_fault (field_behind 1 0 front) w n))
header_answer width room size (cut front last rest) =
    cond (nat_lt 0 (length rest)) (Err (header.Text (second_line (size - length rest))))
    (cond (length front == width) (room_answer room (length (line_bytes front last))) (Err (header.Fields (length front + 1) (width + 1))))

-- a row of this size on a sheet with so many rows
abbrev pub row_answer : (rows room size : ℕ) → Result ℕ RowFault
row_answer rows room size = cond (nat_le max_rows rows) (Err row.Full) (cond (nat_lt room size) (Err (row.AreaTooShort size)) (Ok size))

-- a row that is written counts, a refused one does not
abbrev pub rows_after : ℕ → Result ℕ RowFault → ℕ
rows_after rows (Ok n) = rows + 1
rows_after rows (Err e) = rows

-- the bytes stand at the area's start and the rest is kept; a refusal keeps it all
abbrev pub area_after : {E : Type 0} → List ℕ → List ℕ → Result ℕ E → List ℕ
area_after bytes area (Ok n) = bytes ++ drop n area
area_after bytes area (Err e) = area
