use Rattle.rules.proofs.Determinism.{determined}
use Rattle.rules.proofs.runs_determined.Goals as goal

pub returns : goal.returns
returns c = determined
