use Rattle.std.proofs.Common.{◌≡◌, ◌++◌, map, take, drop}
use Rattle.split.specs.Settling.{moved}
use Rattle.split.proofs.members.move_owner.Given as goal

abbrev pub invariant-loop-member : goal.invariant-loop-member
invariant-loop-member l = l.members ≡ map (moved l.owner l.part) (take l.member-index l.initial.members) ++ drop l.member-index l.initial.members
