use Rattle.std.proofs.Common.{take, ap, subst, rules}
use Rattle.std.specs.List.{AllByRecursion}
use Rattle.sheet.specs.Shown.{Small}
use Rattle.sheet.proofs.Numbers.{row_shown}
use Rattle.sheet.proofs.rows.row_size.Goals as goal

pub returns-clause-shown : goal.returns-clause-shown
returns-clause-shown c =
    let line = c.args.line.now in
    row_shown c.args.width.count line (subst (AllByRecursion Small) (ap (λ n. take n line.ranges) c.count.ensures) c.attributes_size.ensures.small) (search rules)
