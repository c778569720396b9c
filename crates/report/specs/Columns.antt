-- What the fields of a report line say: owner, values, reading. Assumes nothing.
use Rattle.std.specs.Prelude.{ℕ, zero, suc, ◌+◌, min, cond, List, [], ◌∷◌, ◌++◌, length, take, drop, replicate, ℤ, Some, None, Ok, Err, Option, Result, ◌==◌, slice_index}
use Rattle.rfc4180.specs.declared.faults.Location.{Location}
use Rattle.rfc4180.specs.Grammar.{FieldText, plainly, quoted}
use Rattle.rfc4180.specs.Told.{field_behind}
use Rattle.report.specs.declared.columns.Report.{Report}
use Rattle.report.specs.declared.faults.LineFault.{LineFault}
use Rattle.report.specs.declared.faults.LineFault.TheVariants.{FieldCount, FieldKind}
use Rattle.report.specs.Numbers.{number_of, reading_of}

-- a quoted field counts by its inside
abbrev pub inside_of : FieldText → List ℕ
inside_of (plainly bs) = bs
inside_of (quoted bs) = bs

-- numbers, and a reading behind them
pub record Columns : Type 0 where
  pub numbers : List ℕ
  pub reading : ℤ

abbrev pub and_before : ℕ → Result Columns ℕ → Result Columns ℕ
and_before v (Ok c) = Ok (record { numbers = v ∷ c.numbers; reading = c.reading })
and_before v (Err i) = Err (suc i)

abbrev pub number_column : Option ℕ → Result Columns ℕ → Result Columns ℕ
number_column None r = Err 0
number_column (Some v) r = and_before v r

abbrev pub reading_column : Option ℤ → Result Columns ℕ
reading_column None = Err 0
reading_column (Some z) = Ok (record { numbers = []; reading = z })

-- n numbers and a reading, or the place, from 0, of the first field that is not of its kind
abbrev pub columns : ℕ → List FieldText → Result Columns ℕ
columns n [] = Err 0
columns zero (f ∷ fs) = reading_column (reading_of (inside_of f))
columns (suc n) (f ∷ fs) = number_column (number_of (inside_of f)) (columns n fs)

-- the report of a line; the values that it has no column for are 0
abbrev pub report : (line byte : ℕ) → Columns → Report
report line byte c =
    record { line = line; byte = byte; owner = slice_index c.numbers 0; values = take 6 (drop 1 c.numbers ++ replicate 6 0); reading = c.reading }

abbrev pub of_columns : (line byte : ℕ) → List FieldText → Result Columns ℕ → Result Report LineFault
of_columns line byte fs (Ok c) = Ok (report line byte c)
of_columns line byte fs (Err i) = Err (FieldKind (field_behind line byte (take i fs)))

-- the first column that is missing, or that is one too many
abbrev pub miscounted : (line byte count wanted : ℕ) → Location
miscounted line byte count wanted = record { line = line; column = min count wanted + 1; byte = byte }

abbrev pub of_fields : (width line byte : ℕ) → List FieldText → Result Report LineFault
of_fields width line byte fs =
    cond (length fs == width + 2) (of_columns line byte fs (columns (suc width) fs)) (Err (FieldCount (miscounted line byte (length fs) (width + 2))))
