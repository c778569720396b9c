-- Calls, their answers and turns, and the runs from an opening. Assumes nothing.
use Rattle.std.specs.Prelude.{◌≡◌, ℕ, zero, suc, ◌+◌, true, List, [], ◌∷◌, ◌++◌, map, length, Some, None, filter, Option}
use Rattle.domain.specs.Meaning.{Meaning}
use Rattle.release.specs.declared.Settings.{Settings}
use Rattle.release.specs.declared.Record.{Record}
use Rattle.release.specs.declared.Line.{Line}
use Rattle.rules.specs.declared.Held.{Held}
use Rattle.rules.specs.declared.refusals.Refusal.{Refusal}
use Rattle.rules.specs.Choosing.{head}
use Rattle.rules.specs.Clusters.{entered}
use Rattle.rules.specs.States.{State, start, is_due}
use Rattle.rules.specs.Arrival.{arrive}
use Rattle.rules.specs.Turn.{turn}
use Rattle.rules.specs.Refusals.{open_refusal, feed_refusal, close_refusal}

-- room is the length of the list that is lent for the lines
pub data Call : Type 0 where
  feeding : (r : Record) (room : ℕ) → Call
  closing : (room : ℕ) → Call

-- the lines written, at the start of the list, of which the call tells the number; or the refusal, which writes nothing
pub data Answer : Type 0 where
  wrote : List Line → Answer
  refused : Refusal → Answer

abbrev pub lines_of : Answer → List Line
lines_of (wrote ls) = ls
lines_of (refused e) = []

-- whose turn, and the state just before it
pub record Turn : Type 0 where
  pub who : Held
  pub before : State

-- what turns write, and the state behind them
pub record Served : Type 0 where
  pub lines : List Line
  pub turns : List Turn
  pub after : State

abbrev pub serve : Meaning → Settings → State → Option Held → Served
serve m g s None = record { lines = []; turns = []; after = s }
serve m g s (Some t) = let o = turn m g s t in record { lines = o.lines; turns = record { who = t; before = s } ∷ []; after = o.after }

abbrev pub followed : Served → (State → Served) → Served
followed o next = let p = next o.after in record { lines = o.lines ++ p.lines; turns = o.turns ++ p.turns; after = p.after }

-- the held record whose deadline has come has its turn
abbrev pub serve_due : Meaning → Settings → State → Served
serve_due m g s = serve m g s (head (filter (is_due g s) s.held))

-- turns for the lowest held position. n bounds the turns
abbrev pub drain : Meaning → Settings → ℕ → State → Served
drain m g zero s = record { lines = []; turns = []; after = s }
drain m g (suc n) s = followed (serve m g s (head s.held)) (drain m g n)

abbrev pub shut : State → State
shut s = record { held = s.held; boxes = s.boxes; accepted = s.accepted; suppressed = s.suppressed; closed = true }

-- a feeding accepts its record at the next position
abbrev pub feed : Meaning → Settings → State → Record → Served
feed m g s r = serve_due m g (arrive m g s (entered (s.accepted + 1) r))

-- each turn serves a record at least, so as many turns as records are enough
abbrev pub close : Meaning → Settings → State → Served
close m g s = drain m g (length s.held) (shut s)

abbrev pub refusal : Meaning → State → Call → Option Refusal
refusal m s (feeding r room) = feed_refusal m s r room
refusal m s (closing room) = close_refusal s room

abbrev pub done : Meaning → Settings → State → Call → Served
done m g s (feeding r room) = feed m g s r
done m g s (closing room) = close m g s

-- a call, its answer and the turns that came in it
pub record Exchange : Type 0 where
  pub asked : Call
  pub got : Answer
  pub turns : List Turn

-- an exchange, and the state behind it
pub record Step : Type 0 where
  pub exchange : Exchange
  pub after : State

-- a refusal changes nothing
abbrev pub judged : Meaning → Settings → State → Call → Option Refusal → Step
judged m g s c (Some e) = record { exchange = record { asked = c; got = refused e; turns = [] }; after = s }
judged m g s c None = let o = done m g s c in record { exchange = record { asked = c; got = wrote o.lines; turns = o.turns }; after = o.after }

abbrev pub step : Meaning → Settings → State → Call → Step
step m g s c = judged m g s c (refusal m s c)

-- the latest exchange first
abbrev pub History : Type 0
History = List Exchange

-- the history of a stream over m, opened with g, and the state that it leads to
pub data Run (m : Meaning) (g : Settings) : History → State → Type 0 where
  opened : open_refusal m g ≡ None → Run m g [] start
  then : {h : History} {s : State} → Run m g h s → (c : Call) → Run m g ((step m g s c).exchange ∷ h) (step m g s c).after

-- the calls' arguments, the latest first
abbrev pub calls : History → List Call
calls h = map (λ x. x.asked) h

-- ---- that the opening and the calls' arguments determine the rest

-- every list of calls has a run
abbrev pub RunsOn : Meaning → Settings → List Call → Type 0
RunsOn m g cs = (h : History) × (s : State) × Run m g h s × (calls h ≡ cs)

-- and but one: one state, and one history, with its answers and turns
pub record SameRun (h h' : History) (s s' : State) : Type 0 where
  pub history : h ≡ h'
  pub state : s ≡ s'

pub record Determined : Type 0 where
  pub some : (m : Meaning) (g : Settings) → open_refusal m g ≡ None → (cs : List Call) → RunsOn m g cs
  pub one : (m : Meaning) (g : Settings) (h h' : History) (s s' : State) → Run m g h s → Run m g h' s' → calls h ≡ calls h' → SameRun h h' s s'
