use Rattle.std.proofs.Common.{◌≡◌, ◌≤◌, [], map, take, vec_items, vec_len, vec_capacity}
use Rattle.split.specs.Faces.{earliest, face}
use Rattle.split.specs.Parted.{entries}
use Rattle.split.proofs.faces.collect.Given as goal

abbrev pub invariant-loop-member : goal.invariant-loop-member
invariant-loop-member l =
    (vec_items l.faces ≡ map (face []) (earliest (entries (take l.member-index l.members))))
    × (vec_len l.faces ≤ l.member-index)
    × (vec_capacity l.faces ≡ vec_capacity l.initial.faces)
