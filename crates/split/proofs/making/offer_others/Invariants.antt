use Rattle.std.proofs.Common.{map, take}
use Rattle.keeper.specs.Keeping.{Keeps}
use Rattle.split.specs.Near.{rank_of, no_neighbour, neighbour, remaining, others_than}
use Rattle.split.proofs.making.offer_others.Given as goal

abbrev pub invariant-loop-face : goal.invariant-loop-face
invariant-loop-face g l = Keeps rank_of no_neighbour l.near (map (neighbour (g.D.Domain.meaning l.d) l.seed) (others_than l.seed (remaining (take l.face-index l.faces))))
