-- What it is for a list to be the n least of the items given, of equal ranks the earlier. Assumes nothing.
use Rattle.std.specs.Prelude.{◌≡◌, ℕ, min, false, List, [], ◌∷◌, ◌++◌, length, filter}
use Rattle.std.specs.List.{AllByRecursion}
use Rattle.std.specs.List.Sorted.{IsPermutation}
use Rattle.keeper.specs.declared.Rank.{Rank}
use Rattle.keeper.specs.Ranks.{lower, same}

module _ {X : Type 0} (rank : X → Rank) where
  -- the items of rank r
  abbrev pub of_rank : Rank → List X → List X
  of_rank r xs = filter (λ x. same (rank x) r) xs

  -- none of ys ranks lower than x
  abbrev pub NoneLower : X → List X → Type 0
  NoneLower x ys = AllByRecursion (λ y. lower (rank y) (rank x) ≡ false) ys

  -- no item ranks lower than one ahead of it
  abbrev pub InOrder : List X → Type 0
  InOrder [] = Unit {0}
  InOrder (x ∷ xs) = NoneLower x xs × InOrder xs

  -- the items given, in order of giving, are parted into the n least and those turned away
  pub record Least (n : ℕ) (given least turned_away : List X) : Type 0 where
    pub by_rank : InOrder least
    pub as_many : length least ≡ min n (length given)
    -- nothing that was not given, and nothing more often than it was given
    pub of_given : IsPermutation given (least ++ turned_away)
    pub no_higher : AllByRecursion (λ x. NoneLower x turned_away) least
    -- of each rank the least were given ahead of those turned away, and stand in order of giving
    pub earlier : (r : Rank) → of_rank r given ≡ of_rank r least ++ of_rank r turned_away
