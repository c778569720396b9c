-- How an audit goes on: the first breach stays. Assumes nothing.
use Rattle.std.specs.Prelude.{ℕ, fold, Option, Some, None}
use Rattle.std.specs.Option.{option_or}
use Rattle.release.specs.declared.Line.{Line}
use Rattle.workload.specs.declared.checksum.Checksum.{Checksum}
use Rattle.workload.specs.Checksums.{mixed, words}
use Rattle.audit.specs.declared.audit.Audit.{Audit}
use Rattle.audit.specs.declared.book.Moment.{Moment}
use Rattle.audit.specs.declared.wrong.Breach.{Breach}
use Rattle.audit.specs.declared.wrong.Wrong.{Wrong}
use Rattle.audit.specs.Books.{fault, entered, breach, missing, thin, miscount}

-- the checksum of the lines so far, and of one more
abbrev pub summed : Checksum → Line → Checksum
summed sum l = record { h = fold mixed sum.h (words l) }

-- a line in which nothing is wrong is entered, and any other is the breach
abbrev pub judged : Audit → Line → Option Wrong → Audit
judged audit l None = record audit { book = entered audit.book l }
judged audit l (Some wrong) = record audit { breach = Some (breach l.position wrong) }

-- behind the first breach lines are only summed
abbrev pub followed : Moment → Audit → Line → Option Breach → Audit
followed moment audit l None = judged audit l (fault audit.book moment l)
followed moment audit l (Some first) = audit

abbrev pub audited : Moment → Audit → Line → Audit
audited moment audit l = followed moment (record audit { checksum = summed audit.checksum l }) l audit.breach

-- the first thing wrong of a whole run
abbrev pub verdict : Audit → ℕ → ℕ → Option Breach
verdict audit accepted suppressed =
    option_or audit.breach
    (option_or (missing audit.book) (option_or (thin audit.book) (miscount audit.book accepted suppressed)))
