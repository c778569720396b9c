-- Three attributes, each from 0 to 1,000. Assumes nothing.
use Rattle.std.specs.Prelude.{◌≡◌}
use Rattle.domain.specs.declared.interval.Interval.{Interval}
use Rattle.domain.specs.declared.pair.Pair.{Pair}
use Rattle.domain.specs.Interval.{interval_of, interval_meaning}

pub record Thousands (d : Pair (Pair Interval Interval) Interval) : Type 0 where
  pub first : interval_of d.left.left ≡ interval_meaning 0 1000
  pub second : interval_of d.left.right ≡ interval_meaning 0 1000
  pub third : interval_of d.right ≡ interval_meaning 0 1000
