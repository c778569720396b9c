use Rattle.std.proofs.Common.{refl}
use Rattle.sheet.proofs.Wholes.{gives_back}
use Rattle.sheet.proofs.sheets.HeadedSheet.count.Goals as goal

pub returns : goal.returns
returns c = record { value = refl; back = gives_back c.args.self.now.width.count c.args.self.now.rows }
