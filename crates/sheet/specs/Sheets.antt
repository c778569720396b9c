-- What a sheet's calls have written all together, and what it gives back when it is read. Assumes nothing.
use Rattle.std.specs.Prelude.{◌≡◌, ℕ, List, [], ◌∷◌, ◌++◌, map, length, take, drop}
use Rattle.rfc4180.specs.Grammar.{FieldText, Lawful, AllLawful, Derives}
use Rattle.rfc4180.specs.Reading.{cut, read_line}
use Rattle.release.specs.declared.Line.{Line}
use Rattle.std.specs.List.{flat_map, AllByRecursion}
use Rattle.sheet.specs.Rows.{line_bytes, attribute_fields, reading_field, row_bytes}
use Rattle.sheet.specs.Files.{ReadBack}
use Rattle.sheet.specs.Shown.{Shown}

-- the fields of a row: the attributes, then the reading
abbrev pub row_fields : ℕ → Line → List FieldText
row_fields width line = attribute_fields width line ++ reading_field line ∷ []

-- text is what was written, one call after another, to a sheet of this width that has so many rows: a header of these
-- fields, and a row for each of these lines
pub record Wrote (width rows : ℕ) (front : List FieldText) (last : FieldText) (lines : List Line) (text : List ℕ) : Type 0 where
  pub lawful : AllLawful front × Lawful last
  pub columns : length front ≡ width
  pub count : length lines ≡ rows
  pub shown : AllByRecursion (Shown width) lines
  pub bytes : text ≡ line_bytes front last ++ flat_map (row_bytes width) lines

-- a header that was taken: its n bytes begin a sheet, and they are one line, whatever stands behind them, of the fields
-- of the given text
pub record Headed (width : ℕ) (header : List ℕ) (n : ℕ) (before after : List ℕ) : Type 0 where
  pub front : List FieldText
  pub last : FieldText
  pub derives : Derives header front last []
  pub reads : read_line after ≡ cut front last (drop n before)
  pub begins : Wrote width 0 front last [] (take n after)

-- a row that was written is read back: its n bytes are one line, whatever stands behind them, of the fields that went
-- in, and these show the line's numbers
pub record RowBack (width : ℕ) (line : Line) (n : ℕ) (before after : List ℕ) : Type 0 where
  pub reads : read_line after ≡ cut (attribute_fields width line) (reading_field line) (drop n before)
  pub alone : ReadBack (take n after) (row_fields width line ∷ [])
  pub shown : Shown width line

-- whatever a sheet was written with, it was so with this line's row more and these bytes behind the others
abbrev pub GoesOn : (width rows next_width next_rows : ℕ) → Line → List ℕ → Type 0
GoesOn width rows next_width next_rows line bytes =
    (front : List FieldText) (last : FieldText) (lines : List Line) (text : List ℕ) → Wrote width rows front last lines text → Wrote next_width next_rows front last (lines ++ line ∷ []) (text ++ bytes)

-- what was written, read to its end, is the header's line, then a line for each row, in order, and nothing else
abbrev pub GivesBack : (width rows : ℕ) → Type 0
GivesBack width rows =
    (front : List FieldText) (last : FieldText) (lines : List Line) (text : List ℕ) → Wrote width rows front last lines text → ReadBack text ((front ++ last ∷ []) ∷ map (row_fields width) lines)
