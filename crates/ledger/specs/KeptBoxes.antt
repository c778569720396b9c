-- Kept boxes beside those of the rules: the same with the loss, which gives their rank. Assumes nothing.
use Rattle.keeper.specs.declared.Rank.{Rank}
use Rattle.rules.specs.Clusters.{no_box}
use Rattle.rules.specs.States.{Kept}
use Rattle.ledger.specs.declared.kept.KeptBox.{KeptBox}

-- the loss forgotten
abbrev pub kept_of : KeptBox → Kept
kept_of b = record { number = b.number; ranges = b.ranges }

-- loss, then number
abbrev pub rank_of : KeptBox → Rank
rank_of b = record { first = b.loss; second = b.number }

-- what stands in a free place
abbrev pub no_kept : KeptBox
no_kept = record { loss = 4294967295; number = 4294967295; ranges = no_box }
