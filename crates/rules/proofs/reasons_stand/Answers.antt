use Rattle.rules.proofs.Reasons.{reasons_stand}
use Rattle.rules.proofs.reasons_stand.Goals as goal

pub returns : goal.returns
returns c = reasons_stand
