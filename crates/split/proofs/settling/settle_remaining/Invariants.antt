use Rattle.std.proofs.Common.{◌≡◌, ℕ, List, map, drop}
use Rattle.rules.specs.declared.Entry.{Entry}
use Rattle.rules.specs.Clusters.{owner}
use Rattle.split.specs.Faces.{earliest, face}
use Rattle.split.specs.Near.{remaining}
use Rattle.split.specs.Settling.{Beside, ApartIn}
use Rattle.split.proofs.Leftover.{Settled}
use Rattle.split.proofs.settling.settle_remaining.Given as goal

abbrev pub invariant-loop-face : goal.invariant-loop-face
invariant-loop-face g l =
    let m = g.D.Domain.meaning l.d in
    (es : List Entry) (ps : List (List ℕ)) → l.faces ≡ map (face ps) (earliest es) → Beside m es ps l.initial.members l.initial.parts → ApartIn es ps (map owner (remaining l.faces))
    → Settled m es ps (map owner (remaining l.faces)) (map owner (remaining (drop l.face-index l.faces))) l.members l.parts
