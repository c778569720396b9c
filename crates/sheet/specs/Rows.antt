-- The lines of a sheet in the words of the grammar of fields: which fields a row has, and which bytes a line is.
-- Assumes nothing.
use Rattle.std.specs.Prelude.{ℕ, cond, List, [], ◌∷◌, ◌++◌, map, take, decimal, ◌==◌}
use Rattle.rfc4180.specs.Grammar.{FieldText, plainly, quoted, written, with_commas}
use Rattle.rfc4180.specs.Reading.{LineRead, cut, damaged}
use Rattle.domain.specs.declared.range.Range.{Range}
use Rattle.release.specs.declared.Line.{Line}
use Rattle.release.specs.declared.Manner.{Manner}
use Rattle.release.specs.declared.Manner.TheVariants.{Released, Reused, Suppressed}
use Rattle.std.specs.Fmt.{signed_decimal}

-- a line of these fields: a comma behind each but the last, and CR LF (13, 10) behind that
abbrev pub line_bytes : List FieldText → FieldText → List ℕ
line_bytes front last = with_commas front ++ (written last ++ 13 ∷ 10 ∷ [])

-- the bytes of a line that was read, with CR LF whether or not the text had it; a damaged one has none
abbrev pub bytes_of : LineRead → List ℕ
bytes_of (cut front last rest) = line_bytes front last
bytes_of (damaged front w n) = []

-- one value is shown as its number, any other range as [low,high] (91, 44, 93) between quotation marks
abbrev pub range_field : Range → FieldText
range_field a =
    cond (a.low == a.high) (plainly (decimal a.low)) (quoted (91 ∷ (decimal a.low ++ 44 ∷ (decimal a.high ++ 93 ∷ []))))

-- a suppressed record shows a star (42) in the place of each range
abbrev pub attribute_field : Manner → Range → FieldText
attribute_field Released a = range_field a
attribute_field Reused a = range_field a
attribute_field Suppressed a = plainly (42 ∷ [])

-- the first ranges of a line, as many as the sheet is wide
abbrev pub attribute_fields : ℕ → Line → List FieldText
attribute_fields width line = map (attribute_field line.manner) (take width line.ranges)

abbrev pub reading_field : Line → FieldText
reading_field line = plainly (signed_decimal line.reading)

abbrev pub row_bytes : ℕ → Line → List ℕ
row_bytes width line = line_bytes (attribute_fields width line) (reading_field line)
