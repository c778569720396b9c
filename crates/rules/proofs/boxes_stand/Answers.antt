use Rattle.rules.proofs.Around.{boxes_stand}
use Rattle.rules.proofs.boxes_stand.Goals as goal

pub returns : goal.returns
returns c = boxes_stand
