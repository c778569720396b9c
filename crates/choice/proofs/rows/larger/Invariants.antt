use Rattle.std.proofs.Common.{◌≡◌, ◌≤◌, ltb, length, take, filter}
use Rattle.choice.proofs.rows.larger.Given as goal

abbrev pub invariant-loop-cluster : goal.invariant-loop-cluster
invariant-loop-cluster l = (l.n ≤ l.cluster-index) × (l.n ≡ length (filter (λ x. ltb l.size x.size) (take l.cluster-index l.clusters)))
