use Rattle.std.proofs.Common.{◌≤◌, map, length, take}
use Rattle.split.specs.Parted.{marked}
use Rattle.stream.specs.Writing.{released, Writes}
use Rattle.stream.proofs.lines.write_part.Given as goal

abbrev pub invariant-loop-member : goal.invariant-loop-member
invariant-loop-member l = record {
  fits : l.n ≤ length l.initial.list;
  written : length (marked l.part l.members) ≤ length l.initial.list → Writes (map (released l.number l.ranges) (marked l.part (take l.member-index l.members))) l.initial.list l.list l.n;
}
