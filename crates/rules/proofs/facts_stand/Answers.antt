use Rattle.rules.proofs.Bounds.{facts}
use Rattle.rules.proofs.facts_stand.Goals as goal

pub returns : goal.returns
returns c = λ m g h s r. facts r
