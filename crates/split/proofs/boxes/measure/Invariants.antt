use Rattle.std.proofs.Common.{◌≡◌, map, vec_items, vec_len, vec_capacity}
use Rattle.std.specs.List.{range_with_len}
use Rattle.split.specs.Parted.{marked, part_of}
use Rattle.split.proofs.boxes.measure.Given as goal

abbrev pub invariant-loop-j : goal.invariant-loop-j
invariant-loop-j g l =
    (vec_items l.parts ≡ map (λ j. part_of (g.D.Domain.meaning l.d) (marked j l.members)) (range_with_len 0 l.j))
    × (vec_len l.parts ≡ l.j)
    × (vec_capacity l.parts ≡ vec_capacity l.initial.parts)
