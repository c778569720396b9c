-- The n least of a list, computed. Assumes nothing.
use Rattle.std.specs.Prelude.{◌≡◌, ℕ, not, List, [], ◌∷◌, ◌++◌, take, drop, filter}
use Rattle.keeper.specs.declared.Rank.{Rank}
use Rattle.keeper.specs.Ranks.{lower}
use Rattle.keeper.specs.Least.{Least}

module _ {X : Type 0} (rank : X → Rank) where
  -- x behind those of lower rank and ahead of the others
  abbrev pub among : X → List X → List X
  among x ys = filter (λ y. lower (rank y) (rank x)) ys ++ x ∷ filter (λ y. not (lower (rank y) (rank x))) ys

  -- in order of rank, and of equal ranks as they come
  abbrev pub in_order : List X → List X
  in_order [] = []
  in_order (x ∷ xs) = among x (in_order xs)

  abbrev pub leasts : ℕ → List X → List X
  leasts n xs = take n (in_order xs)

  -- those that are not among the n least
  abbrev pub beyond : ℕ → List X → List X
  beyond n xs = drop n (in_order xs)

  -- `leasts` is the n least, and no other list is
  pub record Computes (n : ℕ) (given : List X) : Type 0 where
    pub is_least : Least rank n given (leasts n given) (beyond n given)
    pub no_other : (least turned_away : List X) → Least rank n given least turned_away → least ≡ leasts n given
