-- A run: the records of a workload are fed, the stream is closed, and an outcome tells of it. Assumes nothing.
use Rattle.std.specs.Prelude.{◌≡◌, ℕ, zero, suc, List, [], fold, length, None}
use Rattle.release.specs.declared.Line.{Line}
use Rattle.release.specs.declared.Manner.TheVariants.{Released, Reused, Suppressed}
use Rattle.release.specs.declared.Record.{Record}
use Rattle.release.specs.declared.Settings.{Settings}
use Rattle.workload.specs.Checksums.{basis}
use Rattle.workload.specs.Draws.{seed, ahead}
use Rattle.workload.specs.Records.{Made, draws_of}
use Rattle.workload.specs.declared.source.Workload.{Workload}
use Rattle.audit.specs.declared.audit.Audit.{Audit}
use Rattle.audit.specs.declared.audit.Outcome.{Outcome}
use Rattle.audit.specs.declared.book.Moment.TheVariants.{Feeding, Closing}
use Rattle.audit.specs.Books.{Seen, accepted, count}
use Rattle.audit.specs.Audits.{audited, verdict}

-- before the first record
abbrev pub opened : Settings → ℕ → Seen
opened settings width = record { settings = settings; width = width; entries = []; boxes = [] }

abbrev pub begun : Settings → ℕ → Audit
begun settings width = record { book = opened settings width; checksum = record { h = basis }; breach = None }

-- the record is fed, and the lines that this lets go are audited in their order
abbrev pub IsFed : Record → Audit → Audit → Type 0
IsFed fed a b =
    (lines : List Line) × (b ≡ fold (audited Feeding) (record a { book = accepted fed a.book }) lines)

-- the stream is closed, and the lines that this lets go are audited in their order
abbrev pub IsClosed : Audit → Audit → Type 0
IsClosed a b = (lines : List Line) × (b ≡ fold (audited Closing) a lines)

-- the record behind the first n of the workload is drawn and fed; x and y are the source's numbers before and after
pub record IsNext (workload : Workload) (n x y : ℕ) (a b : Audit) : Type 0 where
  pub fed : Record
  pub made : Made workload n x fed
  pub source : y ≡ ahead (draws_of workload x) x
  pub audit : IsFed fed a b

-- the first n records of the workload are fed
unfoldable pub AreFed : Workload → ℕ → ℕ → Audit → Audit → Type 0
AreFed workload zero y a b = (y ≡ seed) × (a ≡ b)
AreFed workload (suc n) y a c = (x : ℕ) × (b : Audit) × AreFed workload n x a b × IsNext workload n x y b c

-- all that a run feeds, and its closing
abbrev pub IsRun : Workload → Audit → Audit → Type 0
IsRun workload a c = (y : ℕ) × (b : Audit) × AreFed workload 6000 y a b × IsClosed b c

-- what is told of an audit, with the stream's counts
abbrev pub outcome : Workload → Settings → Audit → ℕ → ℕ → Outcome
outcome workload settings a accepted suppressed =
    record {
      workload = workload;
      settings = settings;
      released = count Released a.book;
      boxes = length a.book.boxes;
      reused = count Reused a.book;
      suppressed = count Suppressed a.book;
      checksum = a.checksum.h;
      breach = verdict a accepted suppressed;
    }

abbrev pub Tells : Workload → Settings → ℕ → Outcome → Type 0
Tells workload settings width o =
    (a : Audit) × (accepted : ℕ) × (suppressed : ℕ) × IsRun workload (begun settings width) a × (o ≡ outcome workload settings a accepted suppressed)
