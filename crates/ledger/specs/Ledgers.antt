-- What a ledger remembers, in the words of the rules. Assumes nothing.
use Rattle.std.specs.Prelude.{◌≡◌, ℕ, List, [], map, length, vec_items}
use Rattle.std.specs.List.{AllByRecursion}
use Rattle.domain.specs.Meaning.{Meaning}
use Rattle.domain.specs.Boxes.{box_loss}
use Rattle.release.specs.declared.Settings.{Settings}
use Rattle.keeper.specs.Keeping.{Keeps, items_in}
use Rattle.rules.specs.States.{Boxes, Kept}
use Rattle.rules.specs.Release.{entered_mean}
use Rattle.ledger.specs.declared.kept.KeptBox.{KeptBox}
use Rattle.ledger.specs.declared.ledger.Ledger.{Ledger}
use Rattle.ledger.specs.KeptBoxes.{kept_of, rank_of, no_kept}

-- how many losses enter the mean, and how many boxes may be kept: the settings mu and rho
abbrev pub window_of : Ledger → ℕ
window_of l = l.losses.window

abbrev pub places_of : Ledger → ℕ
places_of l = length (vec_items l.kept)

-- the kept boxes, by rank
abbrev pub kept_boxes : Ledger → List KeptBox
kept_boxes l = items_in rank_of no_kept (vec_items l.kept)

abbrev pub ledger_boxes : Ledger → Boxes
ledger_boxes l = record { kept = map kept_of (kept_boxes l); losses = l.losses.latest.items; made = l.made }

-- the box's loss is that of its ranges
abbrev pub Priced : Meaning → KeptBox → Type 0
Priced m b = b.loss ≡ box_loss m b.ranges

-- n places keep the least of boxes that were offered, each with its loss
pub record KeptWell (m : Meaning) (n : ℕ) (l : Ledger) : Type 0 where
  pub places : places_of l ≡ n
  pub given : List KeptBox
  pub keeps : Keeps rank_of no_kept (vec_items l.kept) given
  pub priced : AllByRecursion (Priced m) (kept_boxes l)

-- a ledger of no boxes
pub record Reserved (mu rho : ℕ) (l : Ledger) : Type 0 where
  pub window : window_of l ≡ mu
  pub places : places_of l ≡ rho
  pub nothing : ledger_boxes l ≡ record { kept = []; losses = []; made = 0 }
  pub well : (m : Meaning) → KeptWell m rho l

-- the box enters the mean, and is offered if its loss is then strictly below it
pub record Enters (m : Meaning) (g : Settings) (before : Ledger) (b : Kept) (after : Ledger) : Type 0 where
  pub boxes : ledger_boxes after ≡ entered_mean m g (ledger_boxes before) b
  pub well : KeptWell m g.rho after
