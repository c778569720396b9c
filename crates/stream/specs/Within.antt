-- What the steps within a call make of a stream and of the lent list. Assumes nothing.
use Rattle.std.specs.Prelude.{◌≡◌, ℕ, Bool, true, false, not, ◌⊎◌, List, Some, None, vec_items, Option, nat_le}
use Rattle.domain.specs.Meaning.{Meaning}
use Rattle.release.specs.declared.Line.{Line}
use Rattle.ledger.specs.KeptBoxes.{kept_of}
use Rattle.rules.specs.Clusters.{size, members}
use Rattle.rules.specs.States.{State, crowd, holding}
use Rattle.rules.specs.Release.{Outcome}
use Rattle.rules.specs.Runs.{Served}
use Rattle.rules.specs.Turn as turns
use Rattle.stream.specs.declared.stream.Stream.{Stream}
use Rattle.pool.specs.Tables.{label_at}
use Rattle.pool.specs.Changes.{are_two}
use Rattle.stream.specs.declared.stream.turns.Merger.{Merger}
use Rattle.stream.specs.declared.stream.turns.Rule.{Rule}
use Rattle.stream.specs.declared.stream.turns.Rule.TheVariants.{Large, Covered, Outnumbered, TooFew, Joining}
use Rattle.stream.specs.Writing.{Writes}
use Rattle.stream.specs.Views.{view, Stands}

module _ {D : Type 0} where
  -- the domain and the settings stay
  pub record SameTerms (s t : Stream D) : Type 0 where
    pub domain : t.domain ≡ s.domain
    pub settings : t.settings ≡ s.settings

  -- the stream holds this state, and stands
  pub record Holds (m : Meaning) (x : State) (s : Stream D) : Type 0 where
    pub state : view s ≡ x
    pub stands : Stands m s

  -- the stream behind a rule, whose lines begin the list; count tells how many
  pub record Comes (m : Meaning) (o : Outcome) (before after : List Line) (count : ℕ) (s : Stream D) : Type 0 where
    pub holds : Holds m o.after s
    pub writes : Writes o.lines before after count

-- what turns write, and the state behind them
abbrev pub outcome_of : Served → Outcome
outcome_of o = record { lines = o.lines; after = o.after }

-- the rule, in the words of the rules
abbrev pub rule_of : Rule → turns.Rule
rule_of Large = turns.large
rule_of (Covered b) = turns.covered (kept_of b)
rule_of Outnumbered = turns.outnumbered
rule_of TooFew = turns.too_few
rule_of Joining = turns.joining

-- the cluster names fewer than a crowd
abbrev pub Wanting : {D : Type 0} → Stream D → ℕ → Bool → Type 0
Wanting s c b = nat_le (crowd s.settings (view s)) (size (members c (vec_items s.pool.held))) ≡ not b

-- places of two clusters, of which c is the taker
abbrev pub AreApart : {D : Type 0} → Stream D → ℕ → Merger → Type 0
AreApart s c x = (are_two s.pool x.taker x.other ≡ true) × (label_at (vec_items s.pool.clusters) x.taker ≡ c)

-- the next merger of cluster c: it names fewer than a crowd, and the other joins it most easily; none where there is no need,
-- or no other
abbrev pub NextMerger : {D : Type 0} → Meaning → Stream D → ℕ → Option Merger → Type 0
NextMerger m s c (Some x) = Wanting s c true × (turns.easiest m c (vec_items s.pool.held) ≡ Some (label_at (vec_items s.pool.clusters) x.other))
NextMerger m s c None = Wanting s c false ⊎ (turns.easiest m c (vec_items s.pool.held) ≡ None)

-- one round of taking over
abbrev pub Round : {D : Type 0} → Meaning → ℕ → Bool → Stream D → Stream D → Type 0
Round m c true s t = (d : ℕ) × Wanting s c true × (turns.easiest m c (vec_items s.pool.held) ≡ Some d) × Holds m (holding (view s) (turns.merged c d (vec_items s.pool.held))) t
Round m c false s t = (Wanting s c false ⊎ (turns.easiest m c (vec_items s.pool.held) ≡ None)) × Holds m (view s) t
