-- What the code's answers stand for. Assumes nothing.
use Rattle.std.specs.Prelude.{◌≡◌, ℕ, ◌+◌, ◌-◌, cond, List, [], ◌∷◌, ◌++◌, map, length, take, drop, Ok, Err, Result, ◌==◌}
use Rattle.rfc4180.specs.declared.fields.Field.{Field}
use Rattle.rfc4180.specs.declared.fields.Field.TheVariants.{Plain, Quoted}
use Rattle.rfc4180.specs.declared.fields.RunFault.{RunFault}
use Rattle.rfc4180.specs.declared.fields.RunFault.TheVariants.{Offends, Runs}
use Rattle.rfc4180.specs.declared.faults.Location.{Location}
use Rattle.rfc4180.specs.declared.faults.TextFault.{TextFault}
use Rattle.rfc4180.specs.declared.faults.TextFault.TheVariants.{NotAllowed, Unclosed}
use Rattle.rfc4180.specs.declared.lines.Delimiter.{Delimiter}
use Rattle.rfc4180.specs.declared.lines.Delimiter.TheVariants.{Comma, LineEnd, TextEnd}
use Rattle.rfc4180.specs.declared.lines.Line.{Line}
use Rattle.rfc4180.specs.Grammar.{FieldText, plainly, quoted, written, with_commas}
use Rattle.rfc4180.specs.Reading.{Wrong, not_allowed, unclosed, FieldRead, whole, faulty, LineRead, cut, damaged}

abbrev pub content : Field → List ℕ
content (Plain bytes) = bytes.now
content (Quoted inside) = inside.now

abbrev pub field_text : Field → FieldText
field_text (Plain bytes) = plainly bytes.now
field_text (Quoted inside) = quoted inside.now

abbrev pub told_field : Result Field TextFault → Result FieldText TextFault
told_field (Ok f) = Ok (field_text f)
told_field (Err e) = Err e

abbrev pub field_size : Result Field TextFault → ℕ
field_size (Ok f) = length (written (field_text f))
field_size (Err e) = 0

abbrev pub forward : Location → ℕ → Location
forward at n = record { line = at.line; column = at.column; byte = at.byte + n }

-- the fault of a field that begins at this place
abbrev pub text_fault : Location → Wrong → ℕ → TextFault
text_fault at not_allowed n = NotAllowed (forward at n) at.byte
text_fault at unclosed n = Unclosed (forward at n) at.byte

-- the fault of such a field whose bytes begin so many bytes behind its first
abbrev pub run_fault : Location → ℕ → RunFault → TextFault
run_fault at marks (Offends n) = text_fault at not_allowed (marks + n)
run_fault at marks (Runs n) = text_fault at unclosed (marks + n)

abbrev pub field_answer : Location → FieldRead → Result FieldText TextFault
field_answer at (whole f) = Ok f
field_answer at (faulty w n) = Err (text_fault at w n)

-- what a field stops before
abbrev pub delimiter : List ℕ → Delimiter
delimiter [] = TextEnd
delimiter (b ∷ bs) = cond (b == 44) Comma LineEnd

abbrev pub fields_of : LineRead → List FieldText
fields_of (cut front last rest) = front ++ last ∷ []
fields_of (damaged front w n) = front

-- the field behind these, on a line that begins at this byte
abbrev pub field_behind : (line byte : ℕ) → List FieldText → Location
field_behind line byte front = record { line = line; column = length front + 1; byte = byte + length (with_commas front) }

-- the answer to a line that begins at this byte of a text of this size: the number of its fields and the first byte
-- behind it, or the fault of its first faulty field
abbrev pub line_answer : (line byte size : ℕ) → LineRead → Result Line TextFault
line_answer line byte size (cut front last rest) = Ok (record { fields = length front + 1; next = size - length rest })
line_answer line byte size (damaged front w n) = Err (text_fault (field_behind line byte front) w n)

-- a list of places holds these fields from its start on, as many as it has room for, and its later places are as before
pub record Filled (fs : List FieldText) (before after : List Field) : Type 0 where
  pub shows : map field_text (take (length fs) after) ≡ take (length after) fs
  pub keeps : drop (length fs) after ≡ drop (length fs) before
