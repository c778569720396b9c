-- Places in the table of open clusters. Assumes nothing.
use Rattle.std.specs.Prelude.{◌≡◌, ℕ, ◌<◌, List, length, Some, None, Option, ◌==◌, ◌≢◌}
use Rattle.std.specs.List.{position}
use Rattle.pool.specs.declared.Cluster.{Cluster}
use Rattle.pool.specs.Tables.{label_at}

-- the place of the row of c
abbrev pub place_of : ℕ → List Cluster → Option ℕ
place_of c xs = position (λ x. x.label == c) xs

-- the first cluster with the label stands at place i
pub record StandsAt (cs : List Cluster) (label i : ℕ) : Type 0 where
  pub within : i < length cs
  pub labelled : label_at cs i ≡ label
  pub none_ahead : (k : ℕ) → k < i → label_at cs k ≢ label

-- its place, and none exactly if no cluster has the label
abbrev pub Finds : List Cluster → ℕ → Option ℕ → Type 0
Finds cs label (Some i) = StandsAt cs label i
Finds cs label None = (k : ℕ) → k < length cs → label_at cs k ≢ label
