use Rattle.std.proofs.Common.{◌≡◌, ℕ, ◌*◌, ◌≤◌, map, sum}
use Rattle.std.specs.List.{range_with_len}
use Rattle.domain.specs.declared.range.Range.{Range}
use Rattle.domain.specs.Meaning.{full_loss, join_of, loss_of}
use Rattle.domain.specs.Boxes.{range_at}
use Rattle.choice.proofs.losses.loss_joined.Given as goal

abbrev pub invariant-loop-i : goal.invariant-loop-i
invariant-loop-i g l =
    let m = g.D.Domain.meaning l.d in
    (l.sum ≤ full_loss * l.i)
    × ((h : ℕ → Range) → ((i : ℕ) (r : Range) → goal.F-post g l.other i r → r ≡ h i) → l.sum ≡ sum (map (λ i. loss_of m i (join_of m i (range_at l.bounds i) (h i))) (range_with_len 0 l.i)))
