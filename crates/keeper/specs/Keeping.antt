-- What the places of a keeper hold of the items given since they were cleared. Assumes nothing.
use Rattle.std.specs.Prelude.{◌≡◌, ℕ, ◌-◌, Bool, true, List, [], ◌∷◌, ◌++◌, length, take, replicate, filter}
use Rattle.std.specs.List.{prefix_len, AllByRecursion}
use Rattle.keeper.specs.declared.Rank.{Rank}
use Rattle.keeper.specs.Ranks.{lower}
use Rattle.keeper.specs.Least.{Least}
use Rattle.keeper.specs.Leasts.{leasts, beyond}

module _ {X : Type 0} (rank : X → Rank) (empty : X) where
  -- the places are a keeper of the items given, listed in order of giving
  pub record Keeps (places given : List X) : Type 0 where
    pub held : List X
    pub turned_away : List X
    pub least : Least rank (length places) given held turned_away
    -- empty marks stand behind what is held
    pub stands : places ≡ held ++ replicate (length places - length held) empty
    -- and rank above all that was given
    pub above : AllByRecursion (λ x. lower (rank x) (rank empty) ≡ true) given

  -- how many places are ahead of the first free one
  abbrev pub count_in : List X → ℕ
  count_in places = prefix_len (λ x. lower (rank x) (rank empty)) places

  abbrev pub items_in : List X → List X
  items_in places = take (count_in places) places

  -- what an offer makes of a keeper of the items given
  pub record Takes (given before : List X) (item : X) (after out : List X) : Type 0 where
    pub keeps : Keeps after (given ++ item ∷ [])
    -- the item competes with what is held, and with nothing else
    pub held : items_in after ≡ leasts rank (length before) (items_in before ++ item ∷ [])
    pub put_out : out ≡ beyond rank (length before) (items_in before ++ item ∷ [])

  -- what is read of a keeper of the items given
  pub record Reads (given places items : List X) : Type 0 where
    pub least : items ≡ leasts rank (length places) given
    -- it is a keeper of these alone too: what was turned away has no more part in it
    pub forgets : Keeps places items
    -- the first that passes a test is the least that does, and of equal ranks the earliest
    pub first : (p : X → Bool) → take 1 (filter p items) ≡ leasts rank 1 (filter p items)
