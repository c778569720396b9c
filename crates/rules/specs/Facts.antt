-- What else every run keeps: bounds, orders and counts that the stream's code rests on. Assumes nothing.
use Rattle.std.specs.Prelude.{◌≡◌, ℕ, ◌+◌, ◌<◌, ◌≤◌, Bool, true, false, cond, List, [], ◌∷◌, length}
use Rattle.std.specs.List.{AllByRecursion}
use Rattle.domain.specs.Meaning.{Meaning}
use Rattle.release.specs.declared.Settings.{Settings}
use Rattle.release.specs.declared.Line.{Line}
use Rattle.release.specs.declared.Manner.{Manner}
use Rattle.release.specs.declared.Manner.TheVariants.{Released, Reused, Suppressed}
use Rattle.rules.specs.declared.Held.{Held}
use Rattle.rules.specs.Choosing.{total}
use Rattle.rules.specs.Clusters.{clusters}
use Rattle.rules.specs.States.{State, crowd, kept_rank}
use Rattle.rules.specs.Around.{Fit}
use Rattle.rules.specs.Refusals.{most_records}
use Rattle.rules.specs.Runs.{Call, feeding, closing, History, step, lines_of, Run}
use Rattle.rules.specs.Promise.{accepted, is_closed, written, ReleasedBox}
use Rattle.rules.specs.Laws.{ByRank}

-- each position above those ahead of it
abbrev pub ByPosition : List Held → Type 0
ByPosition [] = Unit {0}
ByPosition (h ∷ hs) = AllByRecursion (λ x. h.entry.position < x.entry.position) hs × ByPosition hs

abbrev pub is_suppressed : Manner → Bool
is_suppressed Released = false
is_suppressed Reused = false
is_suppressed Suppressed = true

abbrev pub suppressed_lines : List Line → ℕ
suppressed_lines ls = total (λ l. cond (is_suppressed l.manner) 1 0) ls

-- between calls
pub record Bounded (g : Settings) (s : State) : Type 0 where
  pub few_held : length s.held ≤ g.delta
  pub few_open : length (clusters s.held) ≤ g.beta
  pub few_kept : length s.boxes.kept ≤ g.rho
  pub few_losses : length s.boxes.losses ≤ g.mu
  pub few_boxes : s.boxes.made ≤ s.accepted
  pub few_records : s.accepted ≤ most_records

pub record Ordered (m : Meaning) (s : State) : Type 0 where
  -- so that the first held record has the lowest position, and the first kept box that covers a record the least rank
  pub by_position : ByPosition s.held
  pub by_rank : ByRank (kept_rank m) s.boxes.kept
  -- so that the position of the next record is a label that no cluster has
  pub old_labels : AllByRecursion (λ r. r.label ≤ s.accepted) s.held
  -- held records have admitted values
  pub fit : AllByRecursion (λ r. Fit m r.entry) s.held

-- between the turns of a call
pub record Between (m : Meaning) (g : Settings) (s : State) : Type 0 where
  pub few : length s.held ≤ g.delta + 1
  pub by_position : ByPosition s.held
  pub fit : AllByRecursion (λ r. Fit m r.entry) s.held
  -- a box has a record that is held, so that the box numbers of a call stay low
  pub numbers : s.boxes.made + length s.held ≤ most_records + g.delta + 1
  -- and so does the count of suppressed records
  pub few_suppressed : s.suppressed + length s.held ≤ most_records + g.delta + 1

-- the counts are what they are called
pub record Counted (h : History) (s : State) : Type 0 where
  pub all_accepted : s.accepted ≡ length (accepted h)
  pub all_suppressed : s.suppressed ≡ suppressed_lines (written h)
  pub all_closed : s.closed ≡ is_closed h

-- one line more in feeding
abbrev pub more_lines : Call → ℕ
more_lines (feeding r room) = 1
more_lines (closing room) = 0

abbrev pub room_of : Call → ℕ
room_of (feeding r room) = room
room_of (closing room) = room

-- what a call writes
pub record Writing (m : Meaning) (g : Settings) (s : State) (c : Call) : Type 0 where
  pub few_lines : length (lines_of (step m g s c).exchange.got) ≤ length s.held + more_lines c
  pub in_room : length (lines_of (step m g s c).exchange.got) ≤ room_of c
  -- a released box has a number that none had before
  pub new_numbers : AllByRecursion (λ l. l.manner ≡ Released → (s.boxes.made < l.number) × (l.number ≤ (step m g s c).after.boxes.made)) (lines_of (step m g s c).exchange.got)

pub record Facts (m : Meaning) (g : Settings) (h : History) (s : State) : Type 0 where
  pub bounded : Bounded g s
  pub ordered : Ordered m s
  pub counted : Counted h s
  -- each kept box was released, with a crowd
  pub kept_released : AllByRecursion (λ b. ReleasedBox m (crowd g s) h b.number b.ranges) s.boxes.kept
  pub writing : (c : Call) → Writing m g s c

abbrev pub FactsStand : Type 0
FactsStand = (m : Meaning) (g : Settings) (h : History) (s : State) → Run m g h s → Facts m g h s
