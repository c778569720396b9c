-- The widths that there are. Assumes nothing.
use Rattle.std.specs.Prelude.{◌≡◌, ℕ, ◌<◌, ◌⊎◌}
use Rattle.domain.specs.declared.width.WidthFault.{WidthFault}
use Rattle.domain.specs.declared.width.WidthFault.TheVariants.{OutOfRange}

abbrev pub OutOfWidth : ℕ → Type 0
OutOfWidth count = (count ≡ 0) ⊎ (6 < count)

-- 1: a width of 0, or above 6
abbrev pub width_number : WidthFault → ℕ
width_number OutOfRange = 1
