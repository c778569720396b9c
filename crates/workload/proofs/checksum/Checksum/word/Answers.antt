use Rattle.std.proofs.Common.{ap}
use Rattle.workload.specs.Checksums.{mixed}
use Rattle.workload.proofs.checksum.Checksum.word.Goals as goal

pub returns : goal.returns
unfolding mixed
returns c = ap (mixed c.args.self.now.h) c.from.ensures
