use Rattle.std.proofs.Common.{◌≡◌, ◌+◌, ◌≤◌, List, [], map, length}
use Rattle.rules.specs.declared.Entry.{Entry}
use Rattle.split.specs.Faces.{earliest, face}
use Rattle.split.specs.Near.{remaining}
use Rattle.split.proofs.Rounds.{Making}
use Rattle.split.proofs.making.make_parts.Given as goal

abbrev pub invariant-loop-near : goal.invariant-loop-near
invariant-loop-near g l =
    (l.made + length (remaining l.faces) ≤ length l.initial.faces)
    × ((es : List Entry) → l.initial.faces ≡ map (face []) (earliest es) → Making (g.D.Domain.meaning l.d) (length l.initial.near + 1) es l.faces l.made)

abbrev pub decreases-loop-near : goal.decreases-loop-near
decreases-loop-near g l = length (remaining l.faces)
