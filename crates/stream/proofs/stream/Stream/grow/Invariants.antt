use Rattle.std.proofs.Common.{vec_len}
use Rattle.stream.specs.Within.{SameTerms}
use Rattle.stream.proofs.Growing.{Ready, Grows}
use Rattle.stream.proofs.stream.Stream.grow.Given as goal

abbrev pub invariant-loop : goal.invariant-loop
invariant-loop g l =
    SameTerms l.initial.self l.self
    × (Ready (g.D.Domain.meaning l.initial.self.domain) l.label l.initial.self → Grows (g.D.Domain.meaning l.initial.self.domain) l.label l.initial.self l.self)

abbrev pub decreases-loop : goal.decreases-loop
decreases-loop g l = vec_len l.self.pool.clusters
