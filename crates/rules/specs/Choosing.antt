-- Choosing from lists: the least, the first of equals, the different ones, the n of least rank. Assumes nothing.
use Rattle.std.specs.Prelude.{◌≡◌, ℕ, ◌+◌, min, Bool, false, not, ◌&&◌, ◌||◌, ◌⊎◌, List, [], ◌∷◌, ◌++◌, take, drop, Some, None, filter, Option, ◌==◌, nat_eq, nat_lt}

-- y stands in the list
abbrev pub In : {X : Type 0} → List X → X → Type 0
In [] y = ⊥
In (x ∷ xs) y = (x ≡ y) ⊎ In xs y

abbrev pub total : {X : Type 0} → (X → ℕ) → List X → ℕ
total f [] = 0
total f (x ∷ xs) = f x + total f xs

abbrev pub head : {X : Type 0} → List X → Option X
head [] = None
head (x ∷ xs) = Some x

-- the choice among equals, which are listed oldest, earliest or lowest in rank first
abbrev pub chosen : {X : Type 0} → List X → Option X
chosen xs = head xs

-- the least key of a list that is not empty
abbrev pub lowest : {X : Type 0} → (X → ℕ) → List X → ℕ
lowest key [] = 0
lowest key (x ∷ []) = key x
lowest key (x ∷ y ∷ ys) = min (key x) (lowest key (y ∷ ys))

-- all that have the least key, as they are listed
abbrev pub minimal : {X : Type 0} → (X → ℕ) → List X → List X
minimal key xs = let low = lowest key xs in filter (λ x. nat_eq (key x) low) xs

-- the first of those that have the least key
abbrev pub least : {X : Type 0} → (X → ℕ) → List X → Option X
least key xs = head (minimal key xs)

-- each number once, in the order in which they first come
abbrev pub different : List ℕ → List ℕ
different [] = []
different (x ∷ xs) = x ∷ filter (λ y. not (y == x)) (different xs)

-- the number is listed
abbrev pub listed : ℕ → List ℕ → Bool
listed x [] = false
listed x (y ∷ ys) = y == x || listed x ys

-- a rank is two numbers, compared by the first and then by the second
pub record Rank : Type 0 where
  pub first : ℕ
  pub second : ℕ

abbrev pub lower : Rank → Rank → Bool
lower a b = nat_lt a.first b.first || (a.first == b.first && nat_lt a.second b.second)

module _ {X : Type 0} (rank : X → Rank) where
  -- x behind those of lower rank and ahead of the others
  abbrev pub among : X → List X → List X
  among x ys = filter (λ y. lower (rank y) (rank x)) ys ++ x ∷ filter (λ y. not (lower (rank y) (rank x))) ys

  -- in order of rank, and of equal ranks as they come
  abbrev pub in_order : List X → List X
  in_order [] = []
  in_order (x ∷ xs) = among x (in_order xs)

  -- the n of least rank, and those beyond
  abbrev pub lowest_ranked : ℕ → List X → List X
  lowest_ranked n xs = take n (in_order xs)

  abbrev pub beyond : ℕ → List X → List X
  beyond n xs = drop n (in_order xs)
