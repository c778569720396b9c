-- The text of a header without the end of its line. Assumes nothing.
use Rattle.std.specs.Prelude.{ℕ, ◌-◌, Bool, cond, ◌&&◌, List, length, take, ◌==◌, nat_le, slice_index}

-- whether the last two bytes are CR LF
abbrev pub ends_line : List ℕ → Bool
ends_line bs = nat_le 2 (length bs) && (slice_index bs (length bs - 2) == 13 && slice_index bs (length bs - 1) == 10)

abbrev pub without_line_end : List ℕ → List ℕ
without_line_end bs = cond (ends_line bs) (take (length bs - 2) bs) bs
