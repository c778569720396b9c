use Rattle.std.proofs.Common.{◌≡◌, ◌++◌, map, take, drop, vec_items}
use Rattle.rules.specs.Turn.{moved}
use Rattle.pool.proofs.edits.relabel.Given as goal

abbrev pub invariant-loop-h : goal.invariant-loop-h
invariant-loop-h l = l.h-items ≡ map (moved l.to l.from) (take l.h-index (vec_items l.fn.held)) ++ drop l.h-index (vec_items l.fn.held)
