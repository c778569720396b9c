-- The promise: what every run keeps, in words of records, lines, boxes, owners and turns. Assumes nothing.
use Rattle.std.specs.Prelude.{◌≡◌, ℕ, ◌+◌, ◌*◌, ◌<◌, ◌≤◌, Bool, true, false, cond, ◌||◌, ◌⊎◌, List, [], ◌∷◌, ◌++◌, length, Some, None, Option, ◌==◌, ◌≢◌}
use Rattle.std.specs.List.{AllByRecursion}
use Rattle.domain.specs.Meaning.{Meaning}
use Rattle.release.specs.declared.Settings.{Settings}
use Rattle.release.specs.declared.Record.{Record}
use Rattle.release.specs.declared.Line.{Line}
use Rattle.release.specs.declared.Manner.TheVariants.{Released, Suppressed}
use Rattle.rules.specs.declared.Entry.{Entry}
use Rattle.rules.specs.declared.Held.{Held}
use Rattle.rules.specs.Choosing.{In, total}
use Rattle.rules.specs.Clusters.{Box, entered, size, records, members, clusters, box_of, covers_entry}
use Rattle.rules.specs.States.{State, crowd, deadline}
use Rattle.rules.specs.Turn.{larger}
use Rattle.rules.specs.Runs.{Call, feeding, closing, Answer, wrote, refused, Turn, Exchange, History, lines_of, Run}

-- ---- what a history tells

-- a feeding that is not turned away accepts its record
abbrev pub taken : Call → Answer → Option Record
taken (feeding r room) (wrote ls) = Some r
taken (feeding r room) (refused e) = None
taken (closing room) (wrote ls) = None
taken (closing room) (refused e) = None

-- a closing that is not turned away closes the stream
abbrev pub ending : Call → Answer → Bool
ending (feeding r room) got = false
ending (closing room) (wrote ls) = true
ending (closing room) (refused e) = false

abbrev pub more_accepted : Option Record → List Entry → List Entry
more_accepted (Some r) es = entered (length es + 1) r ∷ es
more_accepted None es = es

-- the accepted records, the latest first; their positions are 1, 2, 3 and on
abbrev pub accepted : History → List Entry
accepted [] = []
accepted (x ∷ h) = more_accepted (taken x.asked x.got) (accepted h)

abbrev pub is_closed : History → Bool
is_closed [] = false
is_closed (x ∷ h) = ending x.asked x.got || is_closed h

-- the lines of all calls so far
abbrev pub written : History → List Line
written [] = []
written (x ∷ h) = lines_of x.got ++ written h

-- 1 at p and 0 elsewhere
abbrev pub one : ℕ → ℕ → ℕ
one p q = cond (q == p) 1 0

-- how often a position is held, and how often it is written
abbrev pub held_times : ℕ → List Held → ℕ
held_times p hs = total (λ h. one p h.entry.position) hs

abbrev pub line_times : ℕ → List Line → ℕ
line_times p ls = total (λ l. one p l.position) ls

-- the line has the record's position and reading
abbrev pub Writes : Line → Entry → Type 0
Writes l e = (l.position ≡ e.position) × (l.reading ≡ e.fed.reading)

-- the line writes an accepted record
pub record Written (h : History) (l : Line) : Type 0 where
  pub whose : Entry
  pub accepts : In (accepted h) whose
  pub writes : Writes l whose

-- ---- nothing is lost, nothing doubled, nothing late

pub record Whole (g : Settings) (h : History) (s : State) : Type 0 where
  -- each accepted record is held once or written by one line, and never both
  pub once : AllByRecursion (λ e. held_times e.position s.held + line_times e.position (written h) ≡ 1) (accepted h)
  -- none is held once delta later records were accepted
  pub soon : AllByRecursion (λ r. length (accepted h) < deadline g r.entry) s.held
  -- nor when the stream is closed
  pub last : is_closed h ≡ true → s.held ≡ []
  -- what is held was accepted
  pub known : AllByRecursion (λ r. In (accepted h) r.entry) s.held
  -- each line has the position and the reading of an accepted record
  pub real : AllByRecursion (Written h) (written h)

-- ---- each box covers what is written under it, and names a crowd

-- q is a release line of the box of that number and these ranges
pub record ReleaseLine (h : History) (number : ℕ) (ranges : Box) (q : Line) : Type 0 where
  pub so_far : In (written h) q
  pub released : q.manner ≡ Released
  pub same_number : q.number ≡ number
  pub same_ranges : q.ranges ≡ ranges

-- a released box: its release lines write these records and no others, and they name at least k owners
pub record ReleasedBox (m : Meaning) (k : ℕ) (h : History) (number : ℕ) (ranges : Box) : Type 0 where
  pub named : List Entry
  pub by_lines : AllByRecursion (λ e. In (accepted h) e × ((q : Line) × ReleaseLine h number ranges q × Writes q e)) named
  pub only : (q : Line) → ReleaseLine h number ranges q → ((e : Entry) × In named e × Writes q e)
  pub many : k ≤ size named
  -- it is the least box around them
  pub least : ranges ≡ box_of m named
  -- no other box has its number
  pub alone : (q : Line) → In (written h) q → q.manner ≡ Released → q.number ≡ number → q.ranges ≡ ranges

-- the line writes its record under a released box that covers the record
pub record Boxed (m : Meaning) (k : ℕ) (h : History) (l : Line) : Type 0 where
  pub whose : Entry
  pub accepts : In (accepted h) whose
  pub writes : Writes l whose
  pub covered : covers_entry m l.ranges whose ≡ true
  pub box : ReleasedBox m k h l.number l.ranges

-- ---- each suppression is due

-- the call accepted the record delta positions later, or closed the stream. h is what came before it
abbrev pub InTime : Settings → Exchange → History → Entry → Type 0
InTime g x h e = ((r : Record) × (taken x.asked x.got ≡ Some r) × (length (accepted h) + 1 ≡ deadline g e)) ⊎ (ending x.asked x.got ≡ true)

-- all held records together named fewer than a crowd, or more than half of the open clusters were larger
abbrev pub NoCrowd : Settings → State → Held → Type 0
NoCrowd g s t = (size (records s.held) < crowd g s) ⊎ (length (clusters s.held) < 2 * larger t.label s.held)

-- the line was written at its record's own turn, which came in that call
pub record Due (m : Meaning) (g : Settings) (x : Exchange) (h : History) (l : Line) : Type 0 where
  pub turn : Turn
  pub its : In x.turns turn
  pub own : Writes l turn.who.entry
  pub time : InTime g x h turn.who.entry
  -- in the state just before
  pub held : In turn.before.held turn.who
  pub small : size (members turn.who.label turn.before.held) < crowd g turn.before
  pub bare : AllByRecursion (λ b. covers_entry m b.ranges turn.who.entry ≡ false) turn.before.boxes.kept
  pub why : NoCrowd g turn.before turn.who

abbrev pub Fair : Meaning → Settings → History → Type 0
Fair m g [] = Unit {0}
Fair m g (x ∷ h) = AllByRecursion (λ l. l.manner ≡ Suppressed → Due m g x h l) (lines_of x.got) × Fair m g h

-- ---- the promise

pub record Promise (m : Meaning) (g : Settings) (h : History) (s : State) : Type 0 where
  pub whole : Whole g h s
  pub boxed : AllByRecursion (λ l. (l.manner ≢ Suppressed) → Boxed m (crowd g s) h l) (written h)
  pub fair : Fair m g h

-- for every domain, all settings that opening takes, and every run
abbrev pub PromiseStands : Type 0
PromiseStands = (m : Meaning) (g : Settings) (h : History) (s : State) → Run m g h s → Promise m g h s
