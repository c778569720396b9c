-- What the choices from lists give: laws, so that no fold need be trusted. Assumes nothing.
use Rattle.std.specs.Prelude.{◌≡◌, ℕ, ◌+◌, ◌<◌, ◌≤◌, min, false, ◌⊎◌, List, [], ◌∷◌, ◌++◌, length, Some, None, fold, Option, ◌≢◌}
use Rattle.std.specs.List.{AllByRecursion}
use Rattle.domain.specs.Meaning.{Meaning}
use Rattle.release.specs.declared.Settings.{Settings}
use Rattle.rules.specs.declared.Entry.{Entry}
use Rattle.rules.specs.declared.Held.{Held}
use Rattle.rules.specs.Choosing.{In, total, minimal, least, different, Rank, lower, lowest_ranked, beyond}
use Rattle.rules.specs.Clusters.{owners, size, records, members, clusters}
use Rattle.rules.specs.States.{State, Kept, crowd, kept_rank, offered}
use Rattle.rules.specs.Around.{Together}
use Rattle.rules.specs.Arrival.{home, arrive}
use Rattle.rules.specs.Split.{cut, growth, settle, parts}
use Rattle.rules.specs.Turn.{merged, grown}

module _ {X : Type 0} where
  -- none of the others has a lower key
  abbrev pub HasLeast : (X → ℕ) → List X → X → Type 0
  HasLeast key xs x = In xs x × AllByRecursion (λ y. key x ≤ key y) xs

  -- `minimal` lists those that have the least key, and no others
  pub record MinimalLaw (key : X → ℕ) (xs : List X) : Type 0 where
    pub sound : (x : X) → In (minimal key xs) x → HasLeast key xs x
    pub complete : (x : X) → HasLeast key xs x → In (minimal key xs) x

  -- x is the first in the list of those that have the least key
  pub record FirstLeast (key : X → ℕ) (xs : List X) (x : X) : Type 0 where
    pub ahead : List X
    pub behind : List X
    pub stands : xs ≡ ahead ++ x ∷ behind
    pub above : AllByRecursion (λ y. key x < key y) ahead
    pub no_lower : AllByRecursion (λ y. key x ≤ key y) behind

  -- `least` gives it, and none only from an empty list
  abbrev pub LeastLaw : (X → ℕ) → List X → Option X → Type 0
  LeastLaw key xs (Some x) = FirstLeast key xs x
  LeastLaw key xs None = xs ≡ []

  -- none ranks lower than one ahead of it
  abbrev pub NoneLower : (X → Rank) → X → List X → Type 0
  NoneLower rank x ys = AllByRecursion (λ y. lower (rank y) (rank x) ≡ false) ys

  abbrev pub ByRank : (X → Rank) → List X → Type 0
  ByRank rank [] = Unit {0}
  ByRank rank (x ∷ xs) = NoneLower rank x xs × ByRank rank xs

  -- `lowest_ranked` parts a list into the n of least rank, by rank, and those beyond
  pub record LowestRankedLaw (rank : X → Rank) (n : ℕ) (xs : List X) : Type 0 where
    pub by_rank : ByRank rank (lowest_ranked rank n xs)
    pub as_many : length (lowest_ranked rank n xs) ≡ min n (length xs)
    pub no_higher : AllByRecursion (λ x. NoneLower rank x (beyond rank n xs)) (lowest_ranked rank n xs)
    -- nothing is lost, made up or doubled, by whatever weights one counts
    pub of_given : (f : X → ℕ) → total f (lowest_ranked rank n xs) + total f (beyond rank n xs) ≡ total f xs

-- no number comes again
abbrev pub Once : List ℕ → Type 0
Once [] = Unit {0}
Once (x ∷ xs) = (In xs x → ⊥) × Once xs

-- `different` lists the same numbers, each once
pub record DifferentLaw (xs : List ℕ) : Type 0 where
  pub none_lost : (x : ℕ) → In xs x → In (different xs) x
  pub none_made : (x : ℕ) → In (different xs) x → In xs x
  pub once : Once (different xs)

-- each below those behind it
abbrev pub Ascending : List ℕ → Type 0
Ascending [] = Unit {0}
Ascending (x ∷ xs) = AllByRecursion (λ y. x < y) xs × Ascending xs

-- `clusters` lists the labels of what is held, each once and the oldest first
pub record ClustersLaw (hs : List Held) : Type 0 where
  pub oldest_first : Ascending (clusters hs)
  pub some_held : (c : ℕ) → In (clusters hs) c → (h : Held) × In hs h × (h.label ≡ c)
  pub listed : (h : Held) → In hs h → In (clusters hs) h.label

-- boxes that are offered one by one to n places: kept are the n of least rank of all
abbrev pub KeepingLaw : Meaning → ℕ → List Kept → Type 0
KeepingLaw m n bs = fold (offered m n) [] bs ≡ lowest_ranked (kept_rank m) n bs

-- one cluster takes the record, and no other changes
pub record ArrivalLaw (m : Meaning) (g : Settings) (s : State) (e : Entry) : Type 0 where
  -- an open one, or a new one, which has the record's position for a label
  pub either : In (clusters s.held) (home m g s e) ⊎ (home m g s e ≡ e.position)
  pub takes : members (home m g s e) (arrive m g s e).held ≡ members (home m g s e) s.held ++ e ∷ []
  pub no_other : (c : ℕ) → (home m g s e ≢ c) → members c (arrive m g s e).held ≡ members c s.held

-- c takes the records of d, which closes, and no other cluster changes
pub record MergerLaw (c d : ℕ) (hs : List Held) : Type 0 where
  pub takes : Together (members c hs) (members d hs) (members c (merged c d hs))
  pub closes : (c ≢ d) → members d (merged c d hs) ≡ []
  pub no_other : (x : ℕ) → (x ≢ c) → (x ≢ d) → members x (merged c d hs) ≡ members x hs

-- a leftover owner joins the first made of the parts that grow least
pub record Settles (m : Meaning) (es : List Entry) (ps : List (List ℕ)) (w : ℕ) : Type 0 where
  pub grows : List ℕ
  pub first : FirstLeast (growth m es w) ps grows
  pub joined : settle m es ps w ≡ first.ahead ++ (grows ++ w ∷ []) ∷ first.behind

-- the parts of a cluster: each record is in one of them, and each names k owners if the cluster does
pub record PartsLaw (m : Meaning) (k : ℕ) (es : List Entry) : Type 0 where
  pub each_once : (f : Entry → ℕ) → total (λ p. total f p) (parts m k es) ≡ total f es
  pub crowds : k ≤ size es → AllByRecursion (λ p. k ≤ size p) (parts m k es)

-- the rounds that bound a repetition are enough for it to end
pub record Rounds : Type 0 where
  pub cut_ends : (m : Meaning) (k : ℕ) (es : List Entry) → 1 ≤ k → length (cut m k es (size es) (owners es)).left < k
  pub take_over_ends : (m : Meaning) (g : Settings) (s : State) (c : ℕ) → crowd g s ≤ size (records s.held) → crowd g s ≤ size (members c (grown m g s c).held)

pub record Choices : Type 0 where
  pub clusters_minimal : (key : ℕ → ℕ) (cs : List ℕ) → MinimalLaw key cs
  pub clusters_least : (key : ℕ → ℕ) (cs : List ℕ) → LeastLaw key cs (least key cs)
  pub owners_nearest : (rank : ℕ → Rank) (n : ℕ) (ws : List ℕ) → LowestRankedLaw rank n ws
  pub boxes_lowest : (rank : Kept → Rank) (n : ℕ) (bs : List Kept) → LowestRankedLaw rank n bs
  pub numbers_different : (xs : List ℕ) → DifferentLaw xs
  pub open_clusters : (hs : List Held) → ClustersLaw hs
  pub boxes_kept : (m : Meaning) (n : ℕ) (bs : List Kept) → KeepingLaw m n bs
  pub arrivals : (m : Meaning) (g : Settings) (s : State) (e : Entry) → ArrivalLaw m g s e
  pub mergers : (c d : ℕ) (hs : List Held) → MergerLaw c d hs
  pub leftovers : (m : Meaning) (es : List Entry) (ps : List (List ℕ)) (w : ℕ) → 1 ≤ length ps → Settles m es ps w
  pub cluster_parts : (m : Meaning) (k : ℕ) (es : List Entry) → 1 ≤ k → PartsLaw m k es
  pub rounds : Rounds
