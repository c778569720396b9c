-- Lines on a lent list. Assumes nothing.
use Rattle.std.specs.Prelude.{◌≡◌, ℕ, List, ◌++◌, length, drop}
use Rattle.release.specs.declared.Line.{Line}
use Rattle.release.specs.declared.Manner.TheVariants.{Released}
use Rattle.rules.specs.declared.Entry.{Entry}
use Rattle.rules.specs.Clusters.{Box}
use Rattle.rules.specs.Release.{line}

-- the lines begin the list, and every later place is as it was
abbrev pub put_front : List Line → List Line → List Line
put_front ls list = ls ++ drop (length ls) list

-- the line of a record that is released in a box
abbrev pub released : ℕ → Box → Entry → Line
released number ranges e = line e Released number ranges

-- the lines were written at the list's front, and count tells how many
pub record Writes (ls : List Line) (before after : List Line) (count : ℕ) : Type 0 where
  pub lines : after ≡ put_front ls before
  pub counts : count ≡ length ls
