-- The table of open clusters beside the held records. Assumes nothing.
use Rattle.std.specs.Prelude.{◌≡◌, ℕ, ◌≤◌, List, map, Some, None, Option, vec_items, vec_capacity, slice_index}
use Rattle.domain.specs.Meaning.{Meaning}
use Rattle.domain.specs.Boxes.{point_box, join_boxes}
use Rattle.rules.specs.declared.Held.{Held}
use Rattle.rules.specs.Clusters.{Box, size, members, clusters, box_of, cost}
use Rattle.pool.specs.declared.Cluster.{Cluster}
use Rattle.pool.specs.declared.Pool.{Pool}

-- what a pool holds, and the rows of its table
abbrev pub held_of : Pool → List Held
held_of p = vec_items p.held

abbrev pub rows_of : Pool → List Cluster
rows_of p = vec_items p.clusters

-- what the table has of cluster c: size, loss and box of its members
abbrev pub cluster_of : Meaning → List Held → ℕ → Cluster
cluster_of m hs c = record { label = c; size = size (members c hs); loss = cost m (members c hs); bounds = box_of m (members c hs) }

-- a box, if there is one, widened to cover the values of one record
abbrev pub widened : Meaning → Option Box → List ℕ → Box
widened m None vs = point_box m vs
widened m (Some b) vs = join_boxes m b (point_box m vs)

-- the labels of a table, and the one at place i
abbrev pub labels : List Cluster → List ℕ
labels cs = map (λ x. x.label) cs

abbrev pub label_at : List Cluster → ℕ → ℕ
label_at cs i = slice_index (labels cs) i

-- the open clusters, the oldest first
abbrev pub table : Meaning → List Held → List Cluster
table m hs = map (cluster_of m hs) (clusters hs)

-- the pool's table is that of its held records
abbrev pub Faithful : Meaning → Pool → Type 0
Faithful m p = rows_of p ≡ table m (held_of p)

-- it has the memory for all that a stream may hold
pub record Roomy (p : Pool) : Type 0 where
  pub for_held : 256 ≤ vec_capacity p.held
  pub for_clusters : 64 ≤ vec_capacity p.clusters
