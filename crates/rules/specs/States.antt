-- What a stream holds between two steps, and the four readings that the rules take of it. Assumes nothing.
use Rattle.std.specs.Prelude.{ℕ, ◌+◌, ◌*◌, max, Bool, false, List, [], ◌∷◌, ◌++◌, length, take, sum, ◌==◌, nat_le, nat_lt}
use Rattle.domain.specs.Meaning.{Meaning}
use Rattle.domain.specs.Boxes.{box_loss}
use Rattle.release.specs.declared.Settings.{Settings}
use Rattle.rules.specs.declared.Entry.{Entry}
use Rattle.rules.specs.declared.Held.{Held}
use Rattle.rules.specs.Choosing.{Rank, lowest_ranked}
use Rattle.rules.specs.Clusters.{Box, records_of}

-- a kept box: its number, and its ranges
pub record Kept : Type 0 where
  pub number : ℕ
  pub ranges : Box

-- of the boxes released so far: those kept, by rank; the losses of the last mu, the latest first; how many
pub record Boxes : Type 0 where
  pub kept : List Kept
  pub losses : List ℕ
  pub made : ℕ

-- the held records, by position; the boxes; the counts
pub record State : Type 0 where
  pub held : List Held
  pub boxes : Boxes
  pub accepted : ℕ
  pub suppressed : ℕ
  pub closed : Bool

abbrev pub start : State
start = record { held = []; boxes = record { kept = []; losses = []; made = 0 }; accepted = 0; suppressed = 0; closed = false }

-- the same but for what is held
abbrev pub holding : State → List Held → State
holding s hs = record { held = hs; boxes = s.boxes; accepted = s.accepted; suppressed = s.suppressed; closed = s.closed }

-- ---- read here alone: the crowd, the deadline, the stand-in (the fourth, the choice among equals, is `chosen`)

-- how many owners hide one another
abbrev pub crowd : Settings → State → ℕ
crowd g s = g.k

-- the position whose acceptance gives the record its turn
abbrev pub deadline : Settings → Entry → ℕ
deadline g e = e.position + g.delta

abbrev pub is_due : Settings → State → Held → Bool
is_due g s h = deadline g h.entry == s.accepted

-- what stands for an owner among the records of a split: his earliest
abbrev pub stand_in : List Entry → ℕ → List Entry
stand_in es w = take 1 (records_of w es)

-- ---- the mean of losses, unrounded: a sum over a count. Of no losses it is 0

abbrev pub count : List ℕ → ℕ
count ls = max 1 (length ls)

abbrev pub at_most_mean : List ℕ → ℕ → Bool
at_most_mean ls a = nat_le (a * count ls) (sum ls)

abbrev pub below_mean : List ℕ → ℕ → Bool
below_mean ls a = nat_lt (a * count ls) (sum ls)

-- ---- the kept boxes

-- loss, then number
abbrev pub kept_rank : Meaning → Kept → Rank
kept_rank m b = record { first = box_loss m b.ranges; second = b.number }

-- one box more is offered to n places
abbrev pub offered : Meaning → ℕ → List Kept → Kept → List Kept
offered m n kept b = lowest_ranked (kept_rank m) n (kept ++ b ∷ [])
