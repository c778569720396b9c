use Rattle.std.proofs.Common.{◌≡◌, ◌-◌, ◌≤◌, length}
use Rattle.rfc4180.specs.Reading.{further, plain_extent}
use Rattle.rfc4180.proofs.fields.plain_run.Given as goal

abbrev pub invariant-loop-rest : goal.invariant-loop-rest
invariant-loop-rest l = (further (length l.text - length l.rest) (plain_extent l.rest) ≡ plain_extent l.text) × (length l.rest ≤ length l.text)

abbrev pub decreases-loop-rest : goal.decreases-loop-rest
decreases-loop-rest l = length l.rest
