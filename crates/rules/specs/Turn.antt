-- A record's turn: the first of five rules that fits, and what it does. Assumes nothing.
use Rattle.std.specs.Prelude.{ℕ, zero, suc, ◌+◌, ◌*◌, Bool, true, false, cond, not, List, [], ◌∷◌, map, length, Some, None, filter, Option, ◌==◌, nat_le, nat_lt}
use Rattle.domain.specs.Meaning.{Meaning}
use Rattle.release.specs.declared.Settings.{Settings}
use Rattle.release.specs.declared.Manner.TheVariants.{Reused, Suppressed}
use Rattle.rules.specs.declared.Held.{Held}
use Rattle.rules.specs.Choosing.{chosen, least}
use Rattle.rules.specs.Clusters.{size, records, members, others, clusters, no_box, raise, covers_entry}
use Rattle.rules.specs.States.{State, Kept, holding, crowd}
use Rattle.rules.specs.Release.{line, Outcome, release}

-- the five rules
pub data Rule : Type 0 where
  large : Rule
  covered : Kept → Rule
  outnumbered : Rule
  too_few : Rule
  joining : Rule

-- its cluster names a crowd
abbrev pub is_large : Settings → State → Held → Bool
is_large g s t = nat_le (crowd g s) (size (members t.label s.held))

-- of the kept boxes that cover the record, which stand by rank, the one chosen
abbrev pub cover : Meaning → State → Held → Option Kept
cover m s t = chosen (filter (λ b. covers_entry m b.ranges t.entry) s.boxes.kept)

-- how many open clusters are larger than c
abbrev pub larger : ℕ → List Held → ℕ
larger c hs = length (filter (λ d. nat_lt (size (members c hs)) (size (members d hs))) (clusters hs))

-- more than half of the open clusters are larger
abbrev pub is_outnumbered : State → Held → Bool
is_outnumbered s t = nat_lt (length (clusters s.held)) (2 * larger t.label s.held)

-- all held records together name fewer than a crowd
abbrev pub are_too_few : Settings → State → Bool
are_too_few g s = nat_lt (size (records s.held)) (crowd g s)

-- the first that fits
abbrev pub first_rule : Bool → Option Kept → Bool → Bool → Rule
first_rule true b more few = large
first_rule false (Some b) more few = covered b
first_rule false None true few = outnumbered
first_rule false None false true = too_few
first_rule false None false false = joining

abbrev pub rule : Meaning → Settings → State → Held → Rule
rule m g s t = first_rule (is_large g s t) (cover m s t) (is_outnumbered s t) (are_too_few g s)

-- ---- leaving: a cluster that has lost its last record is closed

abbrev pub without : Held → List Held → List Held
without t hs = filter (λ h. not (h.entry.position == t.entry.position)) hs

abbrev pub reused : State → Held → Kept → Outcome
reused s t b = record { lines = line t.entry Reused b.number b.ranges ∷ []; after = holding s (without t s.held) }

abbrev pub suppress : State → Held → Outcome
suppress s t = record {
  lines = line t.entry Suppressed 0 no_box ∷ [];
  after = record { held = without t s.held; boxes = s.boxes; accepted = s.accepted; suppressed = s.suppressed + 1; closed = s.closed };
}

-- ---- taking over

-- the open cluster whose joining raises the loss of c least, the oldest of equals
abbrev pub easiest : Meaning → ℕ → List Held → Option ℕ
easiest m c hs = least (λ d. raise m (members c hs) (members d hs)) (clusters (others c hs))

-- c takes over d, which closes
abbrev pub moved : ℕ → ℕ → Held → Held
moved c d h = cond (h.label == d) (record { entry = h.entry; label = c }) h

abbrev pub merged : ℕ → ℕ → List Held → List Held
merged c d hs = map (moved c d) hs

abbrev pub if_any : List Held → Option ℕ → (ℕ → List Held) → List Held
if_any hs None more = hs
if_any hs (Some d) more = more d

-- while c names fewer than k owners. n bounds the rounds
abbrev pub take_over : Meaning → ℕ → ℕ → ℕ → List Held → List Held
take_over m k zero c hs = hs
take_over m k (suc n) c hs = cond (nat_le k (size (members c hs))) hs (if_any hs (easiest m c hs) (λ d. take_over m k n c (merged c d hs)))

-- each round closes a cluster, so as many rounds as records are enough
abbrev pub grown : Meaning → Settings → State → ℕ → State
grown m g s c = holding s (take_over m (crowd g s) (length s.held) c s.held)

-- ---- the turn

abbrev pub applied : Meaning → Settings → State → Held → Rule → Outcome
applied m g s t large = release m g s t.label
applied m g s t (covered b) = reused s t b
applied m g s t outnumbered = suppress s t
applied m g s t too_few = suppress s t
applied m g s t joining = release m g (grown m g s t.label) t.label

abbrev pub turn : Meaning → Settings → State → Held → Outcome
turn m g s t = applied m g s t (rule m g s t)
