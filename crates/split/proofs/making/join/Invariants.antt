use Rattle.std.proofs.Common.{◌≡◌, ◌∷◌, ◌++◌, map, take, drop}
use Rattle.split.specs.Near.{names, joined}
use Rattle.split.proofs.making.join.Given as goal

abbrev pub invariant-loop-face : goal.invariant-loop-face
invariant-loop-face l = l.faces ≡ map (joined (l.seed ∷ names l.near) l.part) (take l.face-index l.initial.faces) ++ drop l.face-index l.initial.faces
