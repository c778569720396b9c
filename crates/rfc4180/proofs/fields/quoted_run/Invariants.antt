use Rattle.std.proofs.Common.{◌≡◌, ◌-◌, ◌≤◌, length}
use Rattle.rfc4180.specs.Reading.{further, quoted_extent}
use Rattle.rfc4180.proofs.fields.quoted_run.Given as goal

abbrev pub invariant-loop-rest : goal.invariant-loop-rest
invariant-loop-rest l = (further (length l.text - length l.rest) (quoted_extent l.rest) ≡ quoted_extent l.text) × (length l.rest ≤ length l.text)

abbrev pub decreases-loop-rest : goal.decreases-loop-rest
decreases-loop-rest l = length l.rest
