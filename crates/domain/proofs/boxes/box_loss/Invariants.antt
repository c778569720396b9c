use Rattle.std.proofs.Common.{◌≡◌, ◌*◌, ◌≤◌, map, sum}
use Rattle.std.specs.List.{range_with_len}
use Rattle.domain.specs.Meaning.{full_loss, loss_of}
use Rattle.domain.specs.Boxes.{range_at}
use Rattle.domain.proofs.boxes.box_loss.Given as goal

abbrev pub invariant-loop-i : goal.invariant-loop-i
invariant-loop-i g l =
    (l.sum ≤ full_loss * l.i)
    × (l.sum ≡ sum (map (λ k. loss_of (g.D.Domain.meaning l.d) k (range_at l.bounds k)) (range_with_len 0 l.i)))
