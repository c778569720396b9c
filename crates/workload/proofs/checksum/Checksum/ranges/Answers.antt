use Rattle.std.proofs.Common.{fold, ap, ◌∙◌}
use Rattle.std.proofs.lemmas.List.{take_all}
use Rattle.workload.proofs.Mixing.{both, ends_mixed}
use Rattle.workload.proofs.checksum.Checksum.ranges.Goals as goal

pub returns : goal.returns
returns c =
    let whole = take_all c.loop-range.range-index c.args.ranges.now c.loop-range-test.false in
    c.loop-range.invariant ∙ ap (fold both c.args.self.now.h) whole ∙ ends_mixed c.args.ranges.now c.args.self.now.h
