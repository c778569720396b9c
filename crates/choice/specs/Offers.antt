-- What the offers of clusters come to. Assumes nothing.
use Rattle.std.specs.Prelude.{ℕ, ◌-◌, ◌*◌, Bool, cond, not, ◌||◌, List, map, Some, None, filter, Option, nat_le}
use Rattle.std.specs.List.{enumerate_from}
use Rattle.domain.specs.Meaning.{Meaning}
use Rattle.domain.specs.Boxes.{join_boxes, box_loss}
use Rattle.rules.specs.Choosing.{minimal, least}
use Rattle.pool.specs.declared.Cluster.{Cluster}
use Rattle.ledger.specs.declared.mean.Mean.{Mean}
use Rattle.choice.specs.declared.arrival.Offer.{Offer}
use Rattle.choice.specs.declared.joining.Rise.{Rise}
use Rattle.choice.specs.Losses.{loss_read}

-- what the cluster at a place offers to a record with these values, and all clusters
abbrev pub offer_of : Meaning → Mean → List ℕ → ℕ → Cluster → Offer
offer_of m mean vs i x = record {
  place = i;
  size = x.size;
  raise = loss_read m x vs - x.loss;
  fits = nat_le (loss_read m x vs * mean.count) mean.sum;
}

abbrev pub offers : Meaning → Mean → List ℕ → List Cluster → List Offer
offers m mean vs cs = map (λ p. offer_of m mean vs p.0 p.1) (enumerate_from 0 cs)

-- the first of the smallest
abbrev pub smallest_of : List Offer → Option Offer
smallest_of xs = least (λ x. x.size) xs

-- those that raise the loss least
abbrev pub lightest : List Offer → List Offer
lightest xs = minimal (λ x. x.raise) xs

abbrev pub fitting : List Offer → List Offer
fitting xs = filter (λ x. x.fits) xs

-- the first of two, or else the second
abbrev pub rather : Option Offer → Option Offer → Option Offer
rather (Some x) o = Some x
rather None o = o

-- the smallest that fits, or else the smallest
abbrev pub weighed : List Offer → Option Offer
weighed xs = rather (smallest_of (fitting xs)) (smallest_of xs)

abbrev pub best_of : List Offer → Option Offer
best_of xs = weighed (lightest xs)

-- its place, unless it does not fit and there is room for a new cluster
abbrev pub decided : Bool → Option Offer → Option ℕ
decided room None = None
decided room (Some x) = cond (x.fits || not room) (Some x.place) None

-- by how much the cluster at a place raises the loss of another that it joins
abbrev pub rise_of : Meaning → Cluster → ℕ → Cluster → Rise
rise_of m own i x = record { place = i; raise = box_loss m (join_boxes m own.bounds x.bounds) - own.loss }
