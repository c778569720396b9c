-- Ranges of values, low to high, both ends included. Assumes nothing.
use Rattle.std.specs.Prelude.{ℕ, ◌≤◌, min, max, Bool, ◌&&◌, nat_le}
use Rattle.domain.specs.declared.range.Range.{Range}

abbrev pub span : ℕ → ℕ → Range
span low high = record { low = low; high = high }

-- one value
abbrev pub point : ℕ → Range
point v = span v v

-- a covers the value v
abbrev pub within : Range → ℕ → Bool
within a v = nat_le a.low v && nat_le v a.high

-- a lies inside b: as a test, and as a fact
abbrev pub is_inside : Range → Range → Bool
is_inside a b = nat_le b.low a.low && nat_le a.high b.high

abbrev pub Inside : Range → Range → Type 0
Inside a b = (b.low ≤ a.low) × (a.high ≤ b.high)

-- from the lower low to the higher high
abbrev pub hull : Range → Range → Range
hull a b = span (min a.low b.low) (max a.high b.high)

-- a runs from low to high, inside w
abbrev pub fits : Range → Range → Bool
fits w a = nat_le a.low a.high && is_inside a w
