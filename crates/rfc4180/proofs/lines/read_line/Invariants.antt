use Rattle.std.proofs.Common.{◌-◌, length}
use Rattle.rfc4180.proofs.Progress.{Sofar}
use Rattle.rfc4180.proofs.lines.read_line.Given as goal

abbrev pub invariant-loop-field : goal.invariant-loop-field
invariant-loop-field l = Sofar l.text l.place l.number l.initial.fields l.at l.fields

abbrev pub decreases-loop-field : goal.decreases-loop-field
decreases-loop-field l = length l.text - l.at.byte
