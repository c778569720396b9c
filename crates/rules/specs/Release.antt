-- A cluster is released, part by part, and closes. Assumes nothing.
use Rattle.std.specs.Prelude.{ℕ, ◌+◌, cond, List, [], ◌∷◌, ◌++◌, map, take, fold}
use Rattle.domain.specs.Meaning.{Meaning}
use Rattle.domain.specs.Boxes.{box_loss}
use Rattle.release.specs.declared.Settings.{Settings}
use Rattle.release.specs.declared.Line.{Line}
use Rattle.release.specs.declared.Manner.{Manner}
use Rattle.release.specs.declared.Manner.TheVariants.{Released}
use Rattle.rules.specs.declared.Entry.{Entry}
use Rattle.rules.specs.Clusters.{Box, members, others, box_of}
use Rattle.rules.specs.States.{State, Boxes, Kept, crowd, below_mean, offered}
use Rattle.rules.specs.Split.{parts}

-- the line that writes a record
abbrev pub line : Entry → Manner → ℕ → Box → Line
line e how number b = record { position = e.position; reading = e.fed.reading; manner = how; number = number; ranges = b }

-- the lines written, and the boxes behind them
pub record Output : Type 0 where
  pub lines : List Line
  pub boxes : Boxes

-- the box of that number and these ranges enters the mean, and is offered if its loss is then strictly below it
abbrev pub entered_mean : Meaning → Settings → Boxes → Kept → Boxes
entered_mean m g bs b =
    let loss = box_loss m b.ranges in
    let losses = take g.mu (loss ∷ bs.losses) in
    record { kept = cond (below_mean losses loss) (offered m g.rho bs.kept b) bs.kept; losses = losses; made = b.number }

-- a part gets the next box number, and its records are written as released, by position
abbrev pub release_part : Meaning → Settings → Output → List Entry → Output
release_part m g o es =
    let b : Kept = record { number = o.boxes.made + 1; ranges = box_of m es } in
    record { lines = o.lines ++ map (λ e. line e Released b.number b.ranges) es; boxes = entered_mean m g o.boxes b }

-- the lines that a rule writes, and the state behind it
pub record Outcome : Type 0 where
  pub lines : List Line
  pub after : State

-- each part in order of making; then the cluster closes
abbrev pub release : Meaning → Settings → State → ℕ → Outcome
release m g s c =
    let o = fold (release_part m g) (record { lines = []; boxes = s.boxes }) (parts m (crowd g s) (members c s.held)) in
    record { lines = o.lines; after = record { held = others c s.held; boxes = o.boxes; accepted = s.accepted; suppressed = s.suppressed; closed = s.closed } }
