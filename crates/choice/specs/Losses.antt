-- The loss of a cluster with one record more. Assumes nothing.
use Rattle.std.specs.Prelude.{ℕ, cond, List, map, sum}
use Rattle.domain.specs.declared.range.Range.{Range}
use Rattle.domain.specs.Meaning.{Meaning, join_of, loss_of}
use Rattle.domain.specs.Boxes.{range_at, attributes, point_box, join_boxes, box_loss, covers}
use Rattle.pool.specs.declared.Cluster.{Cluster}

-- the losses of a box's ranges, each joined with the one that h gives for its attribute
abbrev pub joined_losses : Meaning → List Range → (ℕ → Range) → ℕ
joined_losses m b h = sum (map (λ i. loss_of m i (join_of m i (range_at b i) (h i))) (attributes m))

-- the loss of its box, widened to cover the values
abbrev pub loss_beside : Meaning → Cluster → List ℕ → ℕ
loss_beside m x vs = box_loss m (join_boxes m x.bounds (point_box m vs))

-- the same, read off the cluster where its box covers the values
abbrev pub loss_read : Meaning → Cluster → List ℕ → ℕ
loss_read m x vs = cond (covers m x.bounds vs) x.loss (loss_beside m x vs)
