use Rattle.std.proofs.Common.{◌≡◌, ◌^◌, ◌<◌, take, sum_by, ap, arith, rules}
use Rattle.report.specs.declared.faults.LineFault.TheVariants.{FieldKind}
use Rattle.std.proofs.iter.runs.Made.{chains}
use Rattle.report.proofs.Starts.{bytes, start-le, begins}
use Rattle.report.proofs.columns.Row.fault.Goals as goal

pub sum-sizes-requires-clause-fits : goal.sum-sizes-requires-clause-fits
sum-sizes-requires-clause-fits c =
    let row = c.args.self.now in
    let small : sum_by bytes (take c.args.i row.fields.now) < 2 ^ 64 = omega (arith, start-le row.fields.now c.args.i c.requires, row.fits) in
    search (rules, chains)

pub overflow_add-result-2 : goal.overflow_add-result-2
overflow_add-result-2 c =
    let row = c.args.self.now in
    let sizes : c.sum-sizes.result ≡ sum_by bytes (take c.args.i row.fields.now) = search (rules, chains) in
    omega (arith, start-le row.fields.now c.args.i c.requires, row.fits)

pub overflow_add-result-3 : goal.overflow_add-result-3
overflow_add-result-3 c =
    let row = c.args.self.now in
    let sizes : c.sum-sizes.result ≡ sum_by bytes (take c.args.i row.fields.now) = search (rules, chains) in
    omega (arith, start-le row.fields.now c.args.i c.requires, row.fits)

pub returns : goal.returns
returns c =
    let row = c.args.self.now in
    ap FieldKind (begins row.fields.now c.args.i c.requires row.start.line row.start.byte c.sum-sizes.result (search (rules, chains)))
