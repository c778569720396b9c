use Rattle.std.proofs.Common.{refl}
use Rattle.workload.specs.Draws.{next}
use Rattle.workload.proofs.source.Source.turn.Goals as goal

pub returns : goal.returns
unfolding next
returns c = refl
