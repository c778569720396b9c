use Rattle.std.proofs.Common.{◌≡◌, take, fold}
use Rattle.workload.proofs.Mixing.{both}
use Rattle.workload.proofs.checksum.Checksum.ranges.Given as goal

abbrev pub invariant-loop-range : goal.invariant-loop-range
invariant-loop-range l = l.self.h ≡ fold both l.initial.self.h (take l.range-index l.ranges)
