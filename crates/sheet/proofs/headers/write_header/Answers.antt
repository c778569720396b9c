use Rattle.std.proofs.Common.{length, arith}
use Rattle.std.proofs.lemmas.Grind.{common_steps}
use Rattle.sheet.proofs.Heads.{taken, header_area, headed}
use Rattle.sheet.proofs.headers.write_header.Goals as goal

pub returns-clause-area : goal.returns-clause-area
returns-clause-area c =
    let area = c.args.area.now in
    let t = taken c.args.width.count (length area) c.args.header.now _ (c.in_ok-line.ensures.taken (length area)) (omega arith) in
    header_area c.args.width.count c.args.header.now _ area _ t (grind (arith, common_steps))

pub returns-clause-back : goal.returns-clause-back
returns-clause-back c =
    let area = c.args.area.now in
    let t = taken c.args.width.count (length area) c.args.header.now _ (c.in_ok-line.ensures.taken (length area)) (omega arith) in
    headed c.args.width.count c.args.header.now _ area _ t (returns-clause-area c)
