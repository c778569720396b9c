use Rattle.rules.proofs.Wholeness.{whole}
use Rattle.rules.proofs.Boxes.{boxed}
use Rattle.rules.proofs.Fairness.{fair}
use Rattle.rules.proofs.promise_stands.Goals as goal

pub returns : goal.returns
returns c = λ m g h s r. record { whole = whole r; boxed = boxed r; fair = fair r }
