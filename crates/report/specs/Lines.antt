-- What becomes of a report line, and of a whole text of them. Assumes nothing.
use Rattle.std.specs.Prelude.{ℕ, zero, suc, ◌+◌, ◌-◌, List, [], ◌∷◌, ◌++◌, length, drop, Ok, Err, Result}
use Rattle.rfc4180.specs.declared.faults.Diagnostic.{Diagnostic}
use Rattle.rfc4180.specs.Grammar.{with_commas}
use Rattle.rfc4180.specs.Reading.{LineRead, cut, damaged, read_line, behind_line_end}
use Rattle.rfc4180.specs.Told.{text_fault, field_behind}
use Rattle.report.specs.declared.columns.Report.{Report}
use Rattle.report.specs.declared.faults.LineFault.{LineFault}
use Rattle.report.specs.declared.faults.LineFault.TheVariants.{Text}
use Rattle.report.specs.Columns.{of_fields}
use Rattle.report.specs.Faults.{line_diagnostic}

-- a line is taken, or turned away with a number, a layer and a place
abbrev pub Outcome : Type 0
Outcome = Result Report Diagnostic

abbrev pub told : Result Report LineFault → Outcome
told (Ok r) = Ok r
told (Err e) = Err (line_diagnostic e)

-- faults of the text come first
abbrev pub of_reading : (width line byte : ℕ) → LineRead → Result Report LineFault
of_reading width line byte (cut front last rest) = of_fields width line byte (front ++ last ∷ [])
of_reading width line byte (damaged front w n) = Err (Text (text_fault (field_behind line byte front) w n))

-- what becomes of the line at the front of a text, if it is the line of this number and begins at this byte
abbrev pub outcome : (width line byte : ℕ) → List ℕ → Outcome
outcome width line byte text = told (of_reading width line byte (read_line text))

-- what is left: behind the line, or, where its text is damaged, behind the first line end at or after the first byte of
-- the faulty field
abbrev pub left_by : List ℕ → LineRead → List ℕ
left_by text (cut front last rest) = rest
left_by text (damaged front w n) = behind_line_end (drop (length (with_commas front)) text)

abbrev pub left : List ℕ → List ℕ
left text = left_by text (read_line text)

-- how many bytes the line at the front takes
abbrev pub size : List ℕ → ℕ
size text = length text - length (left text)

-- what becomes of the lines of a text behind so many lines and bytes, at most k of them
abbrev pub outcomes_behind : (k width lines bytes : ℕ) → List ℕ → List Outcome
outcomes_behind k width lines bytes [] = []
outcomes_behind zero width lines bytes (b ∷ bs) = []
outcomes_behind (suc k) width lines bytes (b ∷ bs) =
    outcome width (lines + 1) bytes (b ∷ bs) ∷ outcomes_behind k width (lines + 1) (bytes + size (b ∷ bs)) (left (b ∷ bs))

-- what becomes of each line of a text: each takes a byte at least, so k is never used up
abbrev pub outcomes : (width : ℕ) → List ℕ → List Outcome
outcomes width text = outcomes_behind (length text) width 0 0 text
