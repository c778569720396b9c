use Rattle.std.proofs.Common.{◌-◌, ◌≤◌, length}
use Rattle.stream.specs.Within.{SameTerms}
use Rattle.stream.proofs.Emptying.{Full, Empties}
use Rattle.stream.proofs.stream.Stream.drain.Given as goal

abbrev pub invariant-loop : goal.invariant-loop
invariant-loop g l =
    let m = g.D.Domain.meaning l.initial.self.domain in
    record {
      terms : SameTerms l.initial.self l.self;
      empties : Full m l.initial.self l.initial.list → Empties m l.initial.self l.initial.list l.end (l.end - l.counter) l.self l.list l.n;
      fits : l.n ≤ length l.initial.list;
    }
