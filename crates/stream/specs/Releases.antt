-- What the release of parts makes of the ledger and of the lent list. Assumes nothing.
use Rattle.std.specs.Prelude.{◌≡◌, ℕ, List, [], fold}
use Rattle.domain.specs.Meaning.{Meaning}
use Rattle.release.specs.declared.Settings.{Settings}
use Rattle.release.specs.declared.Line.{Line}
use Rattle.ledger.specs.declared.ledger.Ledger.{Ledger}
use Rattle.ledger.specs.Ledgers.{ledger_boxes, KeptWell}
use Rattle.rules.specs.declared.Entry.{Entry}
use Rattle.rules.specs.States.{Boxes}
use Rattle.rules.specs.Release.{Output, release_part}
use Rattle.stream.specs.Writing.{Writes}

-- the parts go out in order, behind these boxes
abbrev pub out_of : Meaning → Settings → Boxes → List (List Entry) → Output
out_of m g b ps = fold (release_part m g) (record { lines = []; boxes = b }) ps

pub record PartsOut (m : Meaning) (g : Settings) (ps : List (List Entry)) (was is : Ledger) (before after : List Line) (count : ℕ) : Type 0 where
  pub boxes : ledger_boxes is ≡ (out_of m g (ledger_boxes was) ps).boxes
  pub kept : KeptWell m g.rho is
  pub writes : Writes (out_of m g (ledger_boxes was) ps).lines before after count
