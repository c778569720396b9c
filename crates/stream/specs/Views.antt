-- What a stream holds, in the words of the rules, and the runs that lead to it. Assumes nothing.
use Rattle.std.specs.Prelude.{◌≡◌, vec_items}
use Rattle.domain.specs.Meaning.{Meaning}
use Rattle.rules.specs.States.{State}
use Rattle.rules.specs.Runs.{History, Run}
use Rattle.pool.specs.Tables.{Faithful, Roomy}
use Rattle.ledger.specs.Ledgers.{ledger_boxes, window_of, KeptWell}
use Rattle.stream.specs.declared.stream.Stream.{Stream}

module _ {D : Type 0} where
  abbrev pub view : Stream D → State
  view s = record { held = vec_items s.pool.held; boxes = ledger_boxes s.ledger; accepted = s.accepted; suppressed = s.suppressed; closed = s.closed }

  -- what the stream has beside that state is faithful to it, for a domain of that meaning
  pub record Stands (m : Meaning) (s : Stream D) : Type 0 where
    -- each open cluster's size, loss and box are those of its members
    pub table : Faithful m s.pool
    -- each kept box has its loss, and they are the least of those offered
    pub kept : KeptWell m s.settings.rho s.ledger
    pub window : window_of s.ledger ≡ s.settings.mu
    -- memory for all that may be held
    pub room : Roomy s.pool

  -- the run leads to the stream
  pub record Leads (m : Meaning) (h : History) (s : Stream D) : Type 0 where
    pub run : Run m s.settings h (view s)
    pub stands : Stands m s
