-- The number under which a refusal is known. Assumes nothing.
use Rattle.std.specs.Prelude.{ℕ}
use Rattle.domain.specs.declared.interval.calls.IntervalFault.{IntervalFault}
use Rattle.domain.specs.declared.interval.calls.IntervalFault.TheVariants.{LowAboveHigh}

abbrev pub interval_number : IntervalFault → ℕ
interval_number LowAboveHigh = 8
