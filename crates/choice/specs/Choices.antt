-- The choices of the rules, of places in a table that is that of the held records. Assumes nothing.
use Rattle.std.specs.Prelude.{◌≡◌, ℕ, ◌<◌, List, length, Option}
use Rattle.std.specs.Option.{option_map}
use Rattle.std.specs.List.{AllByRecursion}
use Rattle.domain.specs.Meaning.{Meaning}
use Rattle.release.specs.declared.Settings.{Settings}
use Rattle.rules.specs.declared.Entry.{Entry}
use Rattle.rules.specs.declared.Held.{Held}
use Rattle.rules.specs.Clusters.{values}
use Rattle.rules.specs.States.{State}
use Rattle.rules.specs.Around.{Fit}
use Rattle.rules.specs.Arrival.{home}
use Rattle.rules.specs.Turn.{easiest}
use Rattle.pool.specs.declared.Cluster.{Cluster}
use Rattle.pool.specs.Tables.{label_at, table}
use Rattle.ledger.specs.declared.mean.Mean.{Mean}
use Rattle.ledger.specs.Means.{MeanOf}
use Rattle.choice.specs.Places.{home_of}

-- held records have admitted values
abbrev pub AllFit : Meaning → List Held → Type 0
AllFit m hs = AllByRecursion (λ h. Fit m h.entry) hs

-- the place of the cluster that takes the record
abbrev pub Takes : Meaning → List Cluster → Mean → ℕ → List ℕ → Option ℕ → Type 0
Takes m cs mean beta vs r =
    (g : Settings) (s : State) (e : Entry)
    → cs ≡ table m s.held → MeanOf s.boxes.losses mean → g.beta ≡ beta → values e ≡ vs → AllFit m s.held → Fit m e
    → home m g s e ≡ home_of r cs e.position

-- the place of the cluster that joins the one at place i
abbrev pub Joins : Meaning → List Cluster → ℕ → Option ℕ → Type 0
Joins m cs i r =
    (hs : List Held)
    → cs ≡ table m hs → AllFit m hs → i < length cs
    → easiest m (label_at cs i) hs ≡ option_map (label_at cs) r
