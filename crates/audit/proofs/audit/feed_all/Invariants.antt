use Rattle.audit.specs.Runs.{AreFed}
use Rattle.audit.proofs.audit.feed_all.Given as goal

abbrev pub invariant-loop-p : goal.invariant-loop-p
invariant-loop-p g l = AreFed l.workload l.p l.source.x l.fn.audit l.audit
