use Rattle.std.proofs.Common.{length, ap, is_ok, arith}
use Rattle.std.proofs.lemmas.List.{length-map}
use Rattle.std.proofs.lemmas.List.Sums.{length-filter, count_by-le-length}
use Rattle.report.specs.Lines.{told, outcomes}
use Rattle.castle.proofs.main.Goals as goal

-- what was taken is among the lines
pub overflow_sub-len : goal.overflow_sub-len
overflow_sub-len c =
    let findings = c.in-Ok.findings in
    let all = outcomes 2 c.deref.result.now in
    let s = c.in-Ok.ensures in
    omega (arith, s.taken, length-filter is_ok all, count_by-le-length is_ok all, ap length s.lines, length-map findings.lines.items told, c.len-2.ensures)
