use Rattle.sheet.proofs.Answering.{row_back}
use Rattle.sheet.proofs.rows.write_row.Goals as goal

pub returns-clause-back : goal.returns-clause-back
returns-clause-back c = row_back c.args.width.count c.args.line.now c.row_size-needed.result c.args.area.now _ c.row_size-needed.ensures.shown c.put_row.ensures c.row_size-needed.ensures.value
