-- Places in the table of open clusters. Assumes nothing.
use Rattle.std.specs.Prelude.{ℕ, List, Some, None, Option}
use Rattle.pool.specs.declared.Cluster.{Cluster}
use Rattle.pool.specs.Tables.{label_at}

-- the label of the cluster at a place, or that of a new cluster
abbrev pub home_of : Option ℕ → List Cluster → ℕ → ℕ
home_of (Some i) cs new = label_at cs i
home_of None cs new = new
