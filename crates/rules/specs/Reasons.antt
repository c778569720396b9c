-- Why a call is refused: each reason with its condition, where none ahead of it holds. Assumes nothing.
use Rattle.std.specs.Prelude.{◌≡◌, ℕ, ◌+◌, ◌<◌, ◌≤◌, true, false, length, Some, ◌≢◌}
use Rattle.domain.specs.Meaning.{Meaning, admits_of}
use Rattle.domain.specs.Boxes.{value_at, known_count}
use Rattle.release.specs.declared.Settings.{Settings}
use Rattle.release.specs.declared.Record.{Record}
use Rattle.rules.specs.declared.refusals.OpenRefusal.{OpenRefusal}
use Rattle.rules.specs.declared.refusals.OpenRefusal.TheVariants.{Width, Limits}
use Rattle.rules.specs.declared.refusals.Refusal.{Refusal}
use Rattle.rules.specs.declared.refusals.Refusal.TheVariants.{Closed, Full, ShortList, Unfit}
use Rattle.rules.specs.States.{State}
use Rattle.rules.specs.Refusals.{narrow, within_limits, open_refusal, most_records, feed_refusal, close_refusal}

-- opening
pub data OpenReason (m : Meaning) (g : Settings) : OpenRefusal → Type 0 where
  open_width : narrow m ≡ false → OpenReason m g Width
  open_limits : narrow m ≡ true → within_limits g ≡ false → OpenReason m g Limits

-- the lowest column at fault
pub data Fault (m : Meaning) (r : Record) : ℕ → Type 0 where
  no_owner : r.owner ≡ 0 → Fault m r 1
  no_value : (r.owner ≢ 0) → (i : ℕ) → i < known_count m → admits_of m i (value_at r.values i) ≡ false
      → ((j : ℕ) → j < i → admits_of m j (value_at r.values j) ≡ true) → Fault m r (i + 2)

-- feeding
pub data FeedReason (m : Meaning) (s : State) (r : Record) (room : ℕ) : Refusal → Type 0 where
  feed_closed : s.closed ≡ true → FeedReason m s r room Closed
  feed_full : s.closed ≡ false → most_records ≤ s.accepted → FeedReason m s r room Full
  feed_short : s.closed ≡ false → s.accepted < most_records → room < length s.held + 1 → FeedReason m s r room ShortList
  feed_unfit : s.closed ≡ false → s.accepted < most_records → length s.held + 1 ≤ room → (column : ℕ) → Fault m r column → FeedReason m s r room (Unfit column)

-- closing
pub data CloseReason (s : State) (room : ℕ) : Refusal → Type 0 where
  close_closed : s.closed ≡ true → CloseReason s room Closed
  close_short : s.closed ≡ false → room < length s.held → CloseReason s room ShortList

-- a call is refused for a reason, and where there is a reason it is refused
pub record ReasonsStand : Type 0 where
  pub opening : (m : Meaning) (g : Settings) (e : OpenRefusal) → open_refusal m g ≡ Some e → OpenReason m g e
  pub opening_back : (m : Meaning) (g : Settings) (e : OpenRefusal) → OpenReason m g e → open_refusal m g ≡ Some e
  pub feeding : (m : Meaning) (s : State) (r : Record) (room : ℕ) (e : Refusal) → feed_refusal m s r room ≡ Some e → FeedReason m s r room e
  pub feeding_back : (m : Meaning) (s : State) (r : Record) (room : ℕ) (e : Refusal) → FeedReason m s r room e → feed_refusal m s r room ≡ Some e
  pub closing : (s : State) (room : ℕ) (e : Refusal) → close_refusal s room ≡ Some e → CloseReason s room e
  pub closing_back : (s : State) (room : ℕ) (e : Refusal) → CloseReason s room e → close_refusal s room ≡ Some e
