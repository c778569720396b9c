-- When opening, feeding and closing are turned away: the first reason in the list. Assumes nothing.
use Rattle.std.specs.Prelude.{ℕ, ◌+◌, Bool, true, false, not, ◌&&◌, List, [], ◌∷◌, map, length, Some, None, Option, ◌==◌, nat_le, nat_lt}
use Rattle.std.specs.Option.{option_map}
use Rattle.domain.specs.Ranges.{span, within}
use Rattle.domain.specs.Meaning.{Meaning, places, width_of, admits_of}
use Rattle.domain.specs.Boxes.{value_at, attributes}
use Rattle.release.specs.declared.Settings.{Settings}
use Rattle.release.specs.declared.Record.{Record}
use Rattle.rules.specs.declared.refusals.OpenRefusal.{OpenRefusal}
use Rattle.rules.specs.declared.refusals.OpenRefusal.TheVariants.{Width, Limits}
use Rattle.rules.specs.declared.refusals.Refusal.{Refusal}
use Rattle.rules.specs.declared.refusals.Refusal.TheVariants.{Closed, Full, ShortList, Unfit}
use Rattle.rules.specs.States.{State}

-- ---- numbers and columns

abbrev pub open_number : OpenRefusal → ℕ
open_number Width = 1
open_number Limits = 2

abbrev pub refusal_number : Refusal → ℕ
refusal_number Closed = 15
refusal_number Full = 16
refusal_number ShortList = 17
refusal_number (Unfit column) = 14

-- a report line's columns count from 1: the owner, then the attributes. 0 where no column is at fault
abbrev pub refusal_column : Refusal → ℕ
refusal_column Closed = 0
refusal_column Full = 0
refusal_column ShortList = 0
refusal_column (Unfit column) = column

-- ---- reasons

-- the reason, if it is so
abbrev pub if_so : {X : Type 0} → Bool → X → Option X
if_so true x = Some x
if_so false x = None

abbrev pub first_of : {X : Type 0} → List (Option X) → Option X
first_of [] = None
first_of (Some x ∷ os) = Some x
first_of (None ∷ os) = first_of os

-- ---- opening

-- one to six attributes
abbrev pub narrow : Meaning → Bool
narrow m = within (span 1 places) (width_of m)

-- each setting within its limits
abbrev pub within_limits : Settings → Bool
within_limits g =
    within (span 2 32) g.k
    && (within (span g.k 255) g.delta
    && (within (span 1 64) g.beta
    && (within (span 1 32) g.mu
    && within (span 1 64) g.rho)))

abbrev pub open_refusal : Meaning → Settings → Option OpenRefusal
open_refusal m g = first_of (if_so (not (narrow m)) Width ∷ if_so (not (within_limits g)) Limits ∷ [])

-- ---- feeding and closing. room is the length of the list that is lent for the lines

abbrev pub most_records : ℕ
most_records = 4000000000

abbrev pub closed_already : State → Option Refusal
closed_already s = if_so s.closed Closed

abbrev pub is_full : State → Option Refusal
is_full s = if_so (nat_le most_records s.accepted) Full

abbrev pub too_short : ℕ → ℕ → Option Refusal
too_short need room = if_so (nat_lt room need) ShortList

-- the columns at fault: the owner 0, and each value that is not admitted
abbrev pub faults : Meaning → Record → List (Option ℕ)
faults m r = if_so (r.owner == 0) 1 ∷ map (λ i. if_so (not (admits_of m i (value_at r.values i))) (i + 2)) (attributes m)

abbrev pub unfit : Meaning → Record → Option Refusal
unfit m r = option_map Unfit (first_of (faults m r))

abbrev pub feed_refusal : Meaning → State → Record → ℕ → Option Refusal
feed_refusal m s r room = first_of (closed_already s ∷ is_full s ∷ too_short (length s.held + 1) room ∷ unfit m r ∷ [])

abbrev pub close_refusal : State → ℕ → Option Refusal
close_refusal s room = first_of (closed_already s ∷ too_short (length s.held) room ∷ [])
