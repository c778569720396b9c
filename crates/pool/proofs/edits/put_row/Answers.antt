use Rattle.std.proofs.Common.{◌<◌, length, vec_items, arith}
use Rattle.std.proofs.lemmas.Bool.{eq-eqb, ne_eqb, cond-true, cond-false}
use Rattle.pool.proofs.Passes.{over_more}
use Rattle.pool.proofs.edits.put_row.Goals.{then-x-row, else-x-row}
use Rattle.pool.proofs.edits.put_row.Goals as goal

pub loop-x-preserved : goal.loop-x-preserved
loop-x-preserved c =
    let xs = vec_items c.args.clusters.now in
    let within : c.loop-x.x-index < length xs = omega arith in
    elim c.if-x-row.branch [
      | then-x-row w ↦ over_more _ xs c.loop-x.x-items _ c.loop-x.x-index _ _ within c.loop-x.invariant w.x-items-is (cond-true _ _ _ (eq-eqb _ _ w.if-x-row.true))
      | else-x-row w ↦ over_more _ xs c.loop-x.x-items _ c.loop-x.x-index _ _ within c.loop-x.invariant w.x-items-is (cond-false _ _ _ (ne_eqb _ _ w.if-x-row.false))
    ]
