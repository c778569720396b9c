-- The n of least rank are those that a keeper of the least holds: both compare the same two numbers.
use Rattle.std.proofs.Common.{◌≡◌, ℕ, List, [], ◌∷◌, take, refl, ap}
use Rattle.keeper.specs.declared.Rank.{Rank as KeeperRank}
use Rattle.keeper.specs.Leasts as keeper
use Rattle.rules.specs.Choosing.{Rank, in_order, lowest_ranked}

-- the rank as a keeper has it
abbrev pub keeper_rank : Rank → KeeperRank
keeper_rank r = record { first = r.first; second = r.second }

module _ {X : Type 0} (rank : X → Rank) where
  in_order_of_keeper : (xs : List X) → keeper.in_order (λ x. keeper_rank (rank x)) xs ≡ in_order rank xs
  in_order_of_keeper [] = refl
  in_order_of_keeper (x ∷ xs) = ap (keeper.among (λ x. keeper_rank (rank x)) x) (in_order_of_keeper xs)

  pub leasts_of_keeper : (n : ℕ) (xs : List X) → keeper.leasts (λ x. keeper_rank (rank x)) n xs ≡ lowest_ranked rank n xs
  leasts_of_keeper n xs = ap (take n) (in_order_of_keeper xs)
