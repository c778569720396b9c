use Rattle.std.proofs.Common.{refl}
use Rattle.rules.proofs.Bounds.{facts}
use Rattle.stream.proofs.stream.Stream.accepted.Goals as goal

pub returns : goal.returns
returns g c = record { value = refl; counts = λ h leads. (facts leads.run).counted.all_accepted }
