use Rattle.std.proofs.Common.{◌<◌, length, vec_items, arith}
use Rattle.std.proofs.lemmas.Bool.{eq-eqb, ne_eqb, cond-true, cond-false}
use Rattle.pool.proofs.Passes.{over_more}
use Rattle.pool.proofs.edits.relabel.Goals.{then-h-from, else-h-from}
use Rattle.pool.proofs.edits.relabel.Goals as goal

pub loop-h-preserved : goal.loop-h-preserved
loop-h-preserved c =
    let xs = vec_items c.args.held.now in
    let within : c.loop-h.h-index < length xs = omega arith in
    elim c.if-h-from.branch [
      | then-h-from w ↦ over_more _ xs c.loop-h.h-items _ c.loop-h.h-index _ _ within c.loop-h.invariant w.h-items-is (cond-true _ _ _ (eq-eqb _ _ w.if-h-from.true))
      | else-h-from w ↦ over_more _ xs c.loop-h.h-items _ c.loop-h.h-index _ _ within c.loop-h.invariant w.h-items-is (cond-false _ _ _ (ne_eqb _ _ w.if-h-from.false))
    ]
