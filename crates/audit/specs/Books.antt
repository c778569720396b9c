-- What an auditor has seen, and what is wrong after it. Assumes nothing.
use Rattle.std.specs.Prelude.{ℕ, ◌+◌, ◌-◌, Bool, false, if◌then◌else◌, ◌&&◌, ◌==◌, nat_lt, nat_le, List, [], ◌∷◌, ◌++◌, length, slice_get, slice_set, count_by, position, find, Option, Some, None, is_some, is_none}
use Rattle.std.specs.Option.{option_map, option_map_or, option_or}
use Rattle.std.specs.Cmp.Lexicographic.{pointwise}
use Rattle.domain.specs.declared.range.Range.{Range}
use Rattle.release.specs.declared.Line.{Line}
use Rattle.release.specs.declared.Manner.{Manner}
use Rattle.release.specs.declared.Manner.TheVariants.{Released, Reused, Suppressed}
use Rattle.release.specs.declared.Record.{Record}
use Rattle.release.specs.declared.Settings.{Settings}
use Rattle.release.specs.Manners.{manner_number}
use Rattle.audit.specs.declared.book.Moment.{Moment}
use Rattle.audit.specs.declared.book.Moment.TheVariants.{Feeding, Closing}
use Rattle.audit.specs.declared.book.Entry.{Entry}
use Rattle.audit.specs.declared.book.Shown.{Shown}
use Rattle.audit.specs.declared.wrong.Breach.{Breach}
use Rattle.audit.specs.declared.wrong.Wrong.{Wrong}
use Rattle.audit.specs.declared.wrong.Wrong.TheVariants.{NotAccepted, Twice, Late, Number, Changed, Crowd, Missing, Count}
use Rattle.audit.specs.Crowds.{joined}
use Rattle.audit.specs.Lines.{line_fault}

-- the records that were fed, in their order, and the boxes that were released, in theirs
pub record Seen : Type 0 where
  pub settings : Settings
  pub width : ℕ
  pub entries : List Entry
  pub boxes : List Shown

-- what stands at a place that is counted from 1
abbrev pub at_place : {A : Type 0} → List A → ℕ → Option A
at_place xs place = if place == 0 then None else slice_get xs (place - 1)

abbrev pub same_manner : Manner → Manner → Bool
same_manner a b = manner_number a == manner_number b

abbrev pub same_range : Range → Range → Bool
same_range a b = a.low == b.low && a.high == b.high

-- a record that was accepted stands behind the others, not written yet
abbrev pub accepted : Record → Seen → Seen
accepted fed seen = record seen { entries = seen.entries ++ ((record { fed = fed; written = None }) ∷ []) }

-- ---- what is wrong with a line

-- at a feeding the deadline may be reached; at the closing it is passed as soon as it is reached
abbrev pub is_late : ℕ → ℕ → ℕ → Moment → Bool
is_late position delta accepted Feeding = nat_lt (position + delta) accepted
is_late position delta accepted Closing = nat_le (position + delta) accepted

-- fewer owners stand behind the box than a crowd has
abbrev pub is_thin : ℕ → Shown → Bool
is_thin k shown = nat_lt (length shown.crowd) k

-- a box that is shown again keeps its ranges, and has its crowd before it is used again
abbrev pub again_fault : ℕ → Shown → Line → Option Wrong
again_fault k shown l =
    if pointwise same_range shown.ranges l.ranges
    then (if same_manner l.manner Reused && is_thin k shown then Some Crowd else None)
    else Some Changed

-- boxes are numbered in the order of their first release lines
abbrev pub is_next : Seen → Line → Bool
is_next seen l = same_manner l.manner Released && l.number == length seen.boxes + 1

abbrev pub first_fault : Seen → Line → Option Wrong
first_fault seen l = if is_next seen l then None else Some Number

abbrev pub box_fault : Seen → Line → Option Wrong
box_fault seen l =
    if same_manner l.manner Suppressed
    then (if l.number == 0 then None else Some Number)
    else option_map_or (λ shown. again_fault seen.settings.k shown l) (at_place seen.boxes l.number) (first_fault seen l)

-- a record that was accepted is written once, in time, as it was fed, and in a box that may be shown
abbrev pub entry_fault : Seen → Moment → Line → Entry → Option Wrong
entry_fault seen moment l entry =
    if is_some entry.written then Some Twice
    else (if is_late l.position seen.settings.delta (length seen.entries) moment then Some Late
    else option_or (line_fault l entry.fed seen.width) (box_fault seen l))

abbrev pub fault : Seen → Moment → Line → Option Wrong
fault seen moment l =
    option_map_or (entry_fault seen moment l) (at_place seen.entries l.position) (Some NotAccepted)

-- ---- what a line leaves

-- a box begins with no owner
abbrev pub begun : Line → Shown
begun l = record { first = l.position; ranges = l.ranges; crowd = [] }

-- the owner joins the crowd of the box that has the number
abbrev pub named : ℕ → ℕ → List Shown → List Shown
named number owner boxes =
    option_map_or
    (λ shown. slice_set boxes (number - 1) (record shown { crowd = joined owner shown.crowd }))
    (at_place boxes number)
    boxes

abbrev pub released : Seen → Line → ℕ → Seen
released seen l owner =
    record seen { boxes = named l.number owner (if is_next seen l then seen.boxes ++ (begun l ∷ []) else seen.boxes) }

abbrev pub written : Seen → Line → Entry → Seen
written seen l entry =
    record seen { entries = slice_set seen.entries (l.position - 1) (record entry { written = Some l.manner }) }

abbrev pub entered_at : Seen → Line → Entry → Seen
entered_at seen l entry =
    written (if same_manner l.manner Released then released seen l entry.fed.owner else seen) l entry

abbrev pub entered : Seen → Line → Seen
entered seen l = option_map_or (entered_at seen l) (at_place seen.entries l.position) seen

-- ---- what is wrong after the last line

abbrev pub written_in : Manner → Entry → Bool
written_in manner entry = option_map_or (λ m. same_manner m manner) entry.written false

abbrev pub count : Manner → Seen → ℕ
count manner seen = count_by (written_in manner) seen.entries

abbrev pub breach : ℕ → Wrong → Breach
breach position wrong = record { position = position; wrong = wrong }

-- the first record that was not written
abbrev pub missing : Seen → Option Breach
missing seen = option_map (λ at. breach (at + 1) Missing) (position (λ e. is_none e.written) seen.entries)

-- the first box that too few owners stand behind
abbrev pub thin : Seen → Option Breach
thin seen = option_map (λ shown. breach shown.first Crowd) (find (is_thin seen.settings.k) seen.boxes)

abbrev pub agrees : Seen → ℕ → ℕ → Bool
agrees seen accepted suppressed = length seen.entries == accepted && count Suppressed seen == suppressed

abbrev pub miscount : Seen → ℕ → ℕ → Option Breach
miscount seen accepted suppressed = if agrees seen accepted suppressed then None else Some (breach accepted Count)
