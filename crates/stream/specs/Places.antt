-- Places among the held records. Assumes nothing.
use Rattle.std.specs.Prelude.{ℕ, List, drop, Some, None, Option}
use Rattle.rules.specs.declared.Held.{Held}
use Rattle.rules.specs.Choosing.{head}

-- the record at that place
abbrev pub held_at : List Held → Option ℕ → Option Held
held_at hs (Some i) = head (drop i hs)
held_at hs None = None
