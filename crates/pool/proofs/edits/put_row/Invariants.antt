use Rattle.std.proofs.Common.{◌≡◌, ◌++◌, map, take, drop, vec_items}
use Rattle.pool.specs.Changes.{replaced}
use Rattle.pool.proofs.edits.put_row.Given as goal

abbrev pub invariant-loop-x : goal.invariant-loop-x
invariant-loop-x l = l.x-items ≡ map (replaced l.row) (take l.x-index (vec_items l.fn.clusters)) ++ drop l.x-index (vec_items l.fn.clusters)
