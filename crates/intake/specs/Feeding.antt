-- What becomes of a report line whose record is fed to a stream. Assumes nothing.
use Rattle.std.specs.Prelude.{◌≡◌, ℕ, Bool, false, List, length, is_ok, Some, None, Ok, Err, Option, Result}
use Rattle.std.specs.Option as options
use Rattle.std.specs.Result.{result_map_both, result_err}
use Rattle.rfc4180.specs.declared.faults.Diagnostic.{Diagnostic}
use Rattle.report.specs.declared.columns.Report.{Report}
use Rattle.report.specs.declared.reader.Reader.{Reader}
use Rattle.report.specs.Lines.{Outcome}
use Rattle.report.specs.Readers.{next, unread}
use Rattle.domain.specs.Meaning.{Meaning}
use Rattle.release.specs.declared.Line as release
use Rattle.release.specs.declared.Record.{Record}
use Rattle.rules.specs.declared.refusals.Refusal.{Refusal}
use Rattle.rules.specs.Refusals.{feed_refusal}
use Rattle.rules.specs.Runs.{History, feeding}
use Rattle.rules.specs.States.{State}
use Rattle.stream.specs.declared.stream.Stream.{Stream}
use Rattle.stream.specs.Calls.{GoesOn}
use Rattle.intake.specs.declared.faults.FeedFault.{FeedFault}
use Rattle.intake.specs.declared.faults.FeedFault.TheVariants.{Feed}
use Rattle.intake.specs.declared.faults.FeedRefusal.{FeedRefusal}
use Rattle.intake.specs.Faults.{refusal_diagnostic, feed_diagnostic}

-- the record that a report line says
abbrev pub record_of : Report → Record
record_of r = record { owner = r.owner; values = r.values; reading = r.reading }

-- a refusal of the line's record, with the line's number and first byte
abbrev pub at_line : Report → Refusal → FeedRefusal
at_line r e = record { refusal = e; line = r.line; byte = r.byte }

-- the answer of the feeding itself
abbrev pub without_line : Result ℕ FeedRefusal → Result ℕ Refusal
without_line r = result_map_both (λ n. n) (λ f. f.refusal) r

-- what the reader tells next
abbrev pub told_by : Reader → Option Outcome
told_by r = next r.width.count r.lines r.place (unread r)

-- why the line is turned away, if it is: by the reader, or else by a stream of this state that lends a list of so many places
abbrev pub reason : Meaning → State → (room : ℕ) → Outcome → Option Diagnostic
reason m s room (Ok r) = options.option_map refusal_diagnostic (options.option_map (at_line r) (feed_refusal m s (record_of r) room))
reason m s room (Err d) = Some d

-- what an answer tells of why the line was turned away, if it was
abbrev pub reason_told : Result ℕ FeedFault → Option Diagnostic
reason_told r = options.option_map feed_diagnostic (result_err r)

-- a line came, and its record was taken
abbrev pub is_taken : Option (Result ℕ FeedFault) → Bool
is_taken None = false
is_taken (Some r) = is_ok r

-- the line's record was fed: the run goes on by the feeding, whose answer is passed on, a refusal with the line
pub record Fed {D : Type 0} (m : Meaning) (h : History) (r : Report) (got : Option (Result ℕ FeedFault)) (before after : List release.Line) (s : Stream D) : Type 0 where
  pub answer : Result ℕ Refusal
  pub passed_on : got ≡ Some (result_map_both (λ n. n) (λ e. Feed (at_line r e)) answer)
  pub goes_on : GoesOn m h (feeding (record_of r) (length before)) answer before after s
