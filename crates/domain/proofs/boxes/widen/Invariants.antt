use Rattle.std.proofs.Common.{◌≡◌, ℕ, ◌<◌, ◌≤◌, length}
use Rattle.domain.specs.Ranges.{point}
use Rattle.domain.specs.Meaning.{places, join_of}
use Rattle.domain.specs.Boxes.{range_at, value_at}
use Rattle.domain.proofs.boxes.widen.Given as goal

abbrev pub invariant-loop-i : goal.invariant-loop-i
invariant-loop-i g l =
    ((k : ℕ) → k < l.i → range_at l.bounds k ≡ join_of (g.D.Domain.meaning l.d) k (range_at l.initial.bounds k) (point (value_at l.values k)))
    × ((k : ℕ) → l.i ≤ k → range_at l.bounds k ≡ range_at l.initial.bounds k)
    × (length l.bounds ≡ places)
