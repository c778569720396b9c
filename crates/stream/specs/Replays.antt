-- Whole lists of calls on a fresh stream. Assumes nothing.
use Rattle.std.specs.Prelude.{◌≡◌, ℕ, ◌≤◌, List, [], ◌∷◌, ◌++◌, map, reverse, length, take, Some, None, Ok, Err, vec_items, Result}
use Rattle.domain.specs.Meaning.{Meaning}
use Rattle.release.specs.declared.Line.{Line}
use Rattle.release.specs.declared.Settings.{Settings}
use Rattle.rules.specs.Runs as runs
use Rattle.rules.specs.Runs.{feeding, closing, lines_of, Exchange, History, calls}
use Rattle.rules.specs.Promise.{Promise}
use Rattle.rules.specs.Refusals.{open_refusal}
use Rattle.stream.specs.declared.faults.OpenFault.{OpenFault}
use Rattle.stream.specs.declared.faults.OpenFault.TheVariants.{Refused, Memory}
use Rattle.stream.specs.declared.replays.Call.{Call}
use Rattle.stream.specs.declared.replays.Call.TheVariants.{Feed, Close}
use Rattle.stream.specs.declared.replays.Replay.{Replay}
use Rattle.stream.specs.declared.stream.Stream.{Stream}
use Rattle.stream.specs.Views.{view, Leads}

-- a call with a list of so many places
abbrev pub call_of : ℕ → Call → runs.Call
call_of room (Feed r) = feeding r room
call_of room Close = closing room

-- the lines of all calls, in the order in which they were written
abbrev pub told : History → List Line
told [] = []
told (x ∷ h) = told h ++ lines_of x.got

-- a call was made, and its lines are the first n of the list
pub record Made {D : Type 0} (m : Meaning) (h : History) (c : runs.Call) (list : List Line) (n : ℕ) (s : Stream D) : Type 0 where
  pub exchange : Exchange
  pub asked : exchange.asked ≡ c
  pub lines : lines_of exchange.got ≡ take n list
  pub fits : n ≤ length list
  pub leads : Leads m (exchange ∷ h) s

-- the calls are those of a run that leads to the stream, the lines are the run's, and it keeps the promise
pub record Replayed {D : Type 0} (m : Meaning) (g : Settings) (cs : List Call) (room : ℕ) (r : Replay D) : Type 0 where
  pub history : History
  pub asked : calls history ≡ map (call_of room) (reverse cs)
  pub lines : vec_items r.lines ≡ told history
  pub leads : Leads m history r.stream
  pub promise : Promise m g history (view r.stream)

-- or no stream was opened, or memory was wanting
abbrev pub Replays : {D : Type 0} → Meaning → Settings → List Call → ℕ → Result (Replay D) OpenFault → Type 0
Replays m g cs room (Ok r) = Replayed m g cs room r
Replays m g cs room (Err (Refused e)) = open_refusal m g ≡ Some e
Replays m g cs room (Err Memory) = open_refusal m g ≡ None
