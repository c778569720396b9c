-- The numbers that the fields of a row show, read from their digits. Assumes nothing.
use Rattle.std.specs.Prelude.{◌≡◌, ℕ, ◌^◌, ◌<◌, cond, List, [], ◌∷◌, map, take, drop, ℤ, Some, None, Option, ◌==◌, slice_index}
use Rattle.rfc4180.specs.Grammar.{FieldText, plainly, quoted}
use Rattle.domain.specs.Ranges.{span, point}
use Rattle.domain.specs.declared.range.Range.{Range}
use Rattle.release.specs.declared.Line.{Line}
use Rattle.release.specs.declared.Manner.{Manner}
use Rattle.release.specs.declared.Manner.TheVariants.{Released, Reused, Suppressed}
use Rattle.std.specs.Str.Parse.{digits_value, signed_digits_value}
use Rattle.sheet.specs.Rows.{attribute_fields, reading_field}

-- the bytes before the first b, and those behind it
abbrev pub bytes_before : ℕ → List ℕ → List ℕ
bytes_before b [] = []
bytes_before b (x ∷ xs) = cond (x == b) [] (x ∷ bytes_before b xs)

abbrev pub bytes_behind : ℕ → List ℕ → List ℕ
bytes_behind b [] = []
bytes_behind b (x ∷ xs) = cond (x == b) xs (bytes_behind b xs)

-- a plain field shows one value, unless it is a star (42), and [low,high] between quotation marks shows both ends
abbrev pub shown_range : FieldText → Option Range
shown_range (plainly bs) = cond (slice_index bs 0 == 42) None (Some (point (digits_value 10 bs)))
shown_range (quoted bs) = Some (span (digits_value 10 (bytes_before 44 (drop 1 bs))) (digits_value 10 (bytes_before 93 (bytes_behind 44 bs))))

abbrev pub shown_reading : FieldText → ℤ
shown_reading (plainly bs) = signed_digits_value 10 bs
shown_reading (quoted bs) = signed_digits_value 10 bs

-- both ends are numbers of 32 bits
abbrev pub Small : Range → Type 0
Small a = (a.low < 2 ^ 32) × (a.high < 2 ^ 32)

-- a suppressed record tells no range
abbrev pub told_range : Manner → Range → Option Range
told_range Released a = Some a
told_range Reused a = Some a
told_range Suppressed a = None

-- the fields of a line's row show the line's ranges and its reading
pub record Shown (width : ℕ) (line : Line) : Type 0 where
  pub ranges : map shown_range (attribute_fields width line) ≡ map (told_range line.manner) (take width line.ranges)
  pub reading : shown_reading (reading_field line) ≡ line.reading
