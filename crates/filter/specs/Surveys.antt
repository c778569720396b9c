-- What `castle` tells of an input. Assumes nothing.
use Rattle.std.specs.Prelude.{◌≡◌, ℕ, ◌<◌, ◌≤◌, List, map, length, is_ok, Some, None, vec_items, filter, Option}
use Rattle.report.specs.Lines.{told, outcomes}
use Rattle.report.specs.Whole.{Whole}
use Rattle.filter.specs.declared.Refusal.{Refusal}
use Rattle.filter.specs.declared.Refusal.TheVariants.{TooLong, Memory}
use Rattle.filter.specs.declared.Findings.{Findings}

-- 19: an input above 65,536 bytes; want of memory is the one refusal without a number
abbrev pub refusal_number : Refusal → Option ℕ
refusal_number TooLong = Some 19
refusal_number Memory = None

-- each line of an input of two attributes has its outcome, in their order, and those taken are counted
pub record Surveyed (input : List ℕ) (s : Findings) : Type 0 where
  pub short : length input ≤ 65536
  pub lines : map told (vec_items s.lines) ≡ outcomes 2 input
  pub taken : s.taken ≡ length (filter is_ok (outcomes 2 input))
  pub whole : Whole 2 input

abbrev pub Refused : List ℕ → Refusal → Type 0
Refused input TooLong = 65536 < length input
Refused input Memory = length input ≤ 65536
