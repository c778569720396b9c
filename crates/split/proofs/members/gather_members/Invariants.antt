use Rattle.std.proofs.Common.{◌≡◌, ◌≤◌, map, take, vec_items, vec_len, vec_capacity}
use Rattle.rules.specs.Clusters as clusters
use Rattle.split.specs.Parted.{of_part}
use Rattle.split.proofs.members.gather_members.Given as goal

abbrev pub invariant-loop-h : goal.invariant-loop-h
invariant-loop-h l =
    (vec_items l.members ≡ map (of_part l.part) (clusters.members l.label (take l.h-index l.held)))
    × (vec_len l.members ≤ l.h-index)
    × (vec_capacity l.members ≡ vec_capacity l.initial.members)
