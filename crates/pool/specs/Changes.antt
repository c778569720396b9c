-- What the changes of a pool make of its held records and of its table. Assumes nothing.
use Rattle.std.specs.Prelude.{◌≡◌, ℕ, ◌+◌, ◌-◌, ◌^◌, min, Bool, cond, not, ◌&&◌, List, [], ◌∷◌, ◌++◌, map, vec_len, vec_capacity, filter, ◌==◌, nat_lt, slice_index}
use Rattle.domain.specs.Meaning.{Meaning}
use Rattle.domain.specs.Boxes.{point_box, join_boxes, box_loss}
use Rattle.rules.specs.declared.Entry.{Entry}
use Rattle.rules.specs.declared.Held.{Held}
use Rattle.rules.specs.Clusters.{values, size, members}
use Rattle.rules.specs.Turn.{merged}
use Rattle.pool.specs.declared.Cluster.{Cluster}
use Rattle.pool.specs.declared.Pool.{Pool}
use Rattle.pool.specs.Tables.{held_of, rows_of, cluster_of, Roomy}

-- nothing is held, and there is memory for all that a stream may hold
pub record Empty (p : Pool) : Type 0 where
  pub none_held : held_of p ≡ []
  pub none_open : rows_of p ≡ []
  pub roomy : Roomy p

-- a pool has as much memory as before
pub record SameMemory (before after : Pool) : Type 0 where
  pub for_held : vec_capacity after.held ≡ vec_capacity before.held
  pub for_clusters : vec_capacity after.clusters ≡ vec_capacity before.clusters

-- ---- held records

-- there is memory for a record more, and for a cluster too
abbrev pub can_hold : Pool → Bool
can_hold p = nat_lt (vec_len p.held) (vec_capacity p.held)

abbrev pub can_open : Pool → Bool
can_open p = can_hold p && nat_lt (vec_len p.clusters) (vec_capacity p.clusters)

-- the record is held behind the others, under that label
abbrev pub held_also : ℕ → Entry → List Held → List Held
held_also c e hs = hs ++ record { entry = e; label = c } ∷ []

-- the label of the held record at place i
abbrev pub label_of : List Held → ℕ → ℕ
label_of hs i = slice_index (map (λ h. h.label) hs) i

-- ---- the table

-- i is a place of the table, and a record can join there; i and j are two places
abbrev pub is_place : Pool → ℕ → Bool
is_place p i = nat_lt i (vec_len p.clusters)

abbrev pub can_join : Pool → ℕ → Bool
can_join p i = is_place p i && can_hold p

abbrev pub are_two : Pool → ℕ → ℕ → Bool
are_two p i j = is_place p i && (is_place p j && not (i == j))

-- the rows of other clusters
abbrev pub other_rows : ℕ → List Cluster → List Cluster
other_rows c xs = filter (λ x. not (x.label == c)) xs

-- the cluster that a record opens
abbrev pub opened : Meaning → Entry → Cluster
opened m e = record { label = e.position; size = 1; loss = box_loss m (point_box m (values e)); bounds = point_box m (values e) }

-- the cluster with a record more, of a new owner or of one that it names. A size does not pass the largest number of 64 bits
abbrev pub with_record : Meaning → List ℕ → (new : Bool) → Cluster → Cluster
with_record m vs new x =
    let b = join_boxes m x.bounds (point_box m vs) in
    record { label = x.label; size = cond new (min (x.size + 1) (2 ^ 64 - 1)) x.size; loss = box_loss m b; bounds = b }

-- the row stands in place of its cluster's
abbrev pub replaced : Cluster → Cluster → Cluster
replaced row x = cond (x.label == row.label) row x

-- the row of c is made again from its members, and goes if there is none
abbrev pub renewed : Meaning → List Held → ℕ → List Cluster → List Cluster
renewed m hs c xs = cond (size (members c hs) == 0) (other_rows c xs) (map (replaced (cluster_of m hs c)) xs)

-- x takes over y: its size is counted again, and its box is the join of the two
abbrev pub union : Meaning → List Held → Cluster → Cluster → Cluster
union m hs x y =
    let b = join_boxes m x.bounds y.bounds in
    record { label = x.label; size = size (members x.label (merged x.label y.label hs)); loss = box_loss m b; bounds = b }

abbrev pub taken_over : Meaning → List Held → Cluster → Cluster → List Cluster → List Cluster
taken_over m hs x y xs = other_rows y.label (map (replaced (union m hs x y)) xs)
