-- The interval from low to high: all values and all ranges within. Assumes nothing.
use Rattle.std.specs.Prelude.{ℕ}
use Rattle.std.proofs.Common.{arith}
use Rattle.domain.specs.declared.interval.Interval.{Interval}
use Rattle.domain.specs.declared.range.Range.{Range}
use Rattle.domain.specs.Ranges.{span, within, fits, hull}
use Rattle.domain.specs.Meaning.{Meaning, Attribute, share}
use Rattle.domain.specs.IntervalFacts.{interval_facts}

-- the values and ranges within w
abbrev pub interval_attribute : Range → Attribute
interval_attribute w = record {
  admitted = within w;
  allowed = fits w;
  join = hull;
  loss = share w;
  facts = interval_facts w;
}

-- one attribute
abbrev pub interval_meaning : ℕ → ℕ → Meaning
interval_meaning low high = record { n = 1; wide = omega arith; attribute = λ _. interval_attribute (span low high) }

abbrev pub interval_of : Interval → Meaning
interval_of d = interval_meaning d.low d.high
