use Rattle.std.proofs.Common.{◌≡◌, ◌++◌, map, take, drop}
use Rattle.split.specs.Faces.{placed}
use Rattle.split.proofs.members.place_members.Given as goal

abbrev pub invariant-loop-member : goal.invariant-loop-member
invariant-loop-member l = l.members ≡ map (placed l.faces) (take l.member-index l.initial.members) ++ drop l.member-index l.initial.members
