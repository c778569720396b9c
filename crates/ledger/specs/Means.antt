-- The mean of losses, as a sum over a count. Assumes nothing.
use Rattle.std.specs.Prelude.{◌≡◌, ℕ, List, sum}
use Rattle.rules.specs.States.{count}
use Rattle.ledger.specs.declared.mean.Mean.{Mean}

-- `at_most_mean` and `below_mean` of these losses compare with its sum and its count
pub record MeanOf (losses : List ℕ) (x : Mean) : Type 0 where
  pub sums : x.sum ≡ sum losses
  pub counts : x.count ≡ count losses
