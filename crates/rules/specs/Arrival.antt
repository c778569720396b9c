-- A record arrives: which cluster takes it. Assumes nothing.
use Rattle.std.specs.Prelude.{ℕ, ◌+◌, Bool, true, false, List, [], ◌∷◌, ◌++◌, length, Some, None, filter, Option, nat_lt}
use Rattle.domain.specs.Meaning.{Meaning}
use Rattle.release.specs.declared.Settings.{Settings}
use Rattle.rules.specs.declared.Entry.{Entry}
use Rattle.rules.specs.Choosing.{chosen, minimal}
use Rattle.rules.specs.Clusters.{size, members, clusters, cost, raise}
use Rattle.rules.specs.States.{State, at_most_mean}

-- the open clusters whose loss the record raises least
abbrev pub candidates : Meaning → State → Entry → List ℕ
candidates m s e = minimal (λ c. raise m (members c s.held) (e ∷ [])) (clusters s.held)

-- with the record, its loss is at most the mean
abbrev pub fits : Meaning → State → Entry → ℕ → Bool
fits m s e c = at_most_mean s.boxes.losses (cost m (members c s.held ++ e ∷ []))

abbrev pub fitting : Meaning → State → Entry → List ℕ
fitting m s e = filter (fits m s e) (candidates m s e)

-- the smallest, before it takes the record; of equal sizes the one chosen
abbrev pub smallest : State → List ℕ → Option ℕ
smallest s cs = chosen (minimal (λ c. size (members c s.held)) cs)

-- the smallest that fits; if none fits and there is room, a new one; else the smallest candidate
abbrev pub taker : (fit : Option ℕ) (room : Bool) (candidate : Option ℕ) (new : ℕ) → ℕ
taker (Some c) room candidate new = c
taker None true candidate new = new
taker None false (Some c) new = c
taker None false None new = new

-- the label of the cluster that takes the record
abbrev pub home : Meaning → Settings → State → Entry → ℕ
home m g s e = taker (smallest s (fitting m s e)) (nat_lt (length (clusters s.held)) g.beta) (smallest s (candidates m s e)) e.position

-- one cluster takes the record, and no other changes
abbrev pub arrive : Meaning → Settings → State → Entry → State
arrive m g s e = record {
  held = s.held ++ record { entry = e; label = home m g s e } ∷ [];
  boxes = s.boxes;
  accepted = s.accepted + 1;
  suppressed = s.suppressed;
  closed = s.closed;
}
