-- What a reader answers next, and what it goes on with. Assumes nothing.
use Rattle.std.specs.Prelude.{◌≡◌, ℕ, ◌+◌, ◌-◌, List, [], ◌∷◌, length, drop, Some, None, Ok, Err, Option, Result}
use Rattle.rfc4180.specs.declared.faults.TextFault.{TextFault}
use Rattle.rfc4180.specs.declared.lines.Line.{Line}
use Rattle.rfc4180.specs.Faults.{faulty_field}
use Rattle.rfc4180.specs.Reading.{behind_line_end}
use Rattle.report.specs.declared.columns.Report.{Report}
use Rattle.report.specs.declared.faults.LineFault.{LineFault}
use Rattle.report.specs.declared.reader.Reader.{Reader}
use Rattle.domain.specs.declared.width.Width.{Width}
use Rattle.report.specs.Lines.{Outcome, told, outcome, size, left}

-- the text that is still to be read
abbrev pub unread : Reader → List ℕ
unread r = drop r.place r.text.now

abbrev pub told_next : Option (Result Report LineFault) → Option Outcome
told_next None = None
told_next (Some r) = Some (told r)

-- nothing more at the end of the text
abbrev pub next : (width lines bytes : ℕ) → List ℕ → Option Outcome
next width lines bytes [] = None
next width lines bytes (b ∷ bs) = Some (outcome width (lines + 1) bytes (b ∷ bs))

abbrev pub lines_more : List ℕ → ℕ
lines_more [] = 0
lines_more (b ∷ bs) = 1

-- a reader before the first line
pub record Begun (all : List ℕ) (wide : Width) (r : Reader) : Type 0 where
  pub text : r.text.now ≡ all
  pub width : r.width ≡ wide
  pub place : r.place ≡ 0
  pub lines : r.lines ≡ 0

-- a reader behind the next line: the line is counted, whether it was taken or turned away, and at the end nothing changes
pub record Behind (was now_is : Reader) : Type 0 where
  pub text : now_is.text.now ≡ was.text.now
  pub width : now_is.width ≡ was.width
  pub lines : now_is.lines ≡ was.lines + lines_more (unread was)
  pub place : now_is.place ≡ was.place + size (unread was)
  pub unread : drop now_is.place now_is.text.now ≡ left (drop was.place was.text.now)

-- where reading goes on in the whole text, by the answer to its next line
abbrev pub place_behind : List ℕ → Result Line TextFault → ℕ
place_behind all (Ok line) = line.next
place_behind all (Err fault) = length all - length (behind_line_end (drop (faulty_field fault) all))

-- what a reader gives next, and what it goes on with
pub record Gives (was : Reader) (o : Option (Result Report LineFault)) (now_is : Reader) : Type 0 where
  pub answer : told_next o ≡ next was.width.count was.lines was.place (unread was)
  pub behind : Behind was now_is
