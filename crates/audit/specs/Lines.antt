-- What is right in a line, beside the record that it writes. Assumes nothing.
use Rattle.std.specs.Prelude.{ℕ, min, Bool, if◌then◌else◌, ◌&&◌, Some, None, Option, List, ◌==◌, take, drop}
use Rattle.std.specs.Int.{w32}
use Rattle.std.proofs.Common.{of_z}
use Rattle.std.specs.List.{list_all, zip}
use Rattle.domain.specs.declared.range.Range.{Range}
use Rattle.domain.specs.Ranges.{within}
use Rattle.release.specs.declared.Line.{Line}
use Rattle.release.specs.declared.Manner.{Manner}
use Rattle.release.specs.declared.Manner.TheVariants.{Released, Reused, Suppressed}
use Rattle.release.specs.declared.Record.{Record}
use Rattle.audit.specs.declared.wrong.Wrong.{Wrong}
use Rattle.audit.specs.declared.wrong.Wrong.TheVariants.{Reading, Ranges}

-- how many ranges are used, of n attributes
abbrev pub used : Manner → ℕ → ℕ
used Released n = min n 6
used Reused n = min n 6
used Suppressed n = 0

-- each range covers the value at its place
abbrev pub cover : List Range → List ℕ → Bool
cover ranges values = list_all (λ p. within p.0 p.1) (zip ranges values)

-- each range is (0, 0)
abbrev pub are_unused : List Range → Bool
are_unused ranges = list_all (λ r. r.low == 0 && r.high == 0) ranges

-- the ranges that are used cover the values, and any other is (0, 0)
abbrev pub shows : Line → Record → ℕ → Bool
shows l fed n =
    cover (take (used l.manner n) l.ranges) fed.values && are_unused (drop (used l.manner n) l.ranges)

-- the same reading, bit by bit
abbrev pub same_reading : Line → Record → Bool
same_reading l fed = of_z w32 l.reading == of_z w32 fed.reading

-- what is wrong, the reading first
abbrev pub line_fault : Line → Record → ℕ → Option Wrong
line_fault l fed n =
    if same_reading l fed then (if shows l fed n then None else Some Ranges) else Some Reading
