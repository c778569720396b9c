-- What holds of boxes in every domain. Assumes nothing.
use Rattle.std.specs.Prelude.{◌≡◌, ℕ, ◌≤◌, true, false, ◌||◌, List, length}
use Rattle.domain.specs.declared.range.Range.{Range}
use Rattle.domain.specs.Ranges.{point, Inside}
use Rattle.domain.specs.Meaning.{Meaning, places, known}
use Rattle.domain.specs.Boxes.{range_at, value_at, join_boxes, covers, box_loss}

-- each known attribute has an allowed range
abbrev pub Allowed : Meaning → List Range → Type 0
Allowed m b = (i : ℕ) → known m i ≡ true → (m.attribute i).allowed (range_at b i) ≡ true

-- each known attribute's value is admitted
abbrev pub Admitted : Meaning → List ℕ → Type 0
Admitted m vs = (i : ℕ) → known m i ≡ true → (m.attribute i).admitted (value_at vs i) ≡ true

-- at each known attribute a lies inside b
abbrev pub InsideBox : Meaning → List Range → List Range → Type 0
InsideBox m a b = (i : ℕ) → known m i ≡ true → Inside (range_at a i) (range_at b i)

-- a whole box: an allowed range for each known attribute, and (0, 0) at the other places
pub record Box (m : Meaning) (b : List Range) : Type 0 where
  pub six : length b ≡ places
  pub allowed : Allowed m b
  pub unused : (i : ℕ) → known m i ≡ false → range_at b i ≡ point 0

-- j is the least box of allowed ranges that contains both a and b
pub record LeastBox (m : Meaning) (a b j : List Range) : Type 0 where
  pub is_allowed : Allowed m j
  pub first : InsideBox m a j
  pub second : InsideBox m b j
  pub least : (k : List Range) → Allowed m k → InsideBox m a k → InsideBox m b k → InsideBox m j k

-- j is the least box that covers the values, and loses nothing
pub record LeastCover (m : Meaning) (vs : List ℕ) (j : List Range) : Type 0 where
  pub is_box : Box m j
  pub covering : covers m j vs ≡ true
  pub least : (k : List Range) → covers m k vs ≡ true → InsideBox m j k
  pub lossless : box_loss m j ≡ 0

-- j is the least box of allowed ranges that contains b and covers the values
pub record LeastWider (m : Meaning) (b : List Range) (vs : List ℕ) (j : List Range) : Type 0 where
  pub is_allowed : Allowed m j
  pub containing : InsideBox m b j
  pub covering : covers m j vs ≡ true
  pub least : (k : List Range) → Allowed m k → InsideBox m b k → covers m k vs ≡ true → InsideBox m j k

-- j covers what a covers, and what b covers
abbrev pub CoversBoth : Meaning → List Range → List Range → List Range → Type 0
CoversBoth m a b j = (vs : List ℕ) → (covers m a vs || covers m b vs) ≡ true → covers m j vs ≡ true

-- no box of allowed ranges that contains b loses less than the loss x
abbrev pub LosesLeast : Meaning → List Range → ℕ → Type 0
LosesLeast m b x = (k : List Range) → Allowed m k → InsideBox m b k → x ≤ box_loss m k

-- the laws of join, of boxes
pub record BoxSemilattice (m : Meaning) : Type 0 where
  pub closed : (a b : List Range) → Box m a → Box m b → Box m (join_boxes m a b)
  pub idempotent : (a : List Range) → Box m a → join_boxes m a a ≡ a
  pub commutative : (a b : List Range) → Box m a → Box m b → join_boxes m a b ≡ join_boxes m b a
  pub associative : (a b c : List Range) → Box m a → Box m b → Box m c → join_boxes m (join_boxes m a b) c ≡ join_boxes m a (join_boxes m b c)
