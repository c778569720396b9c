-- What it is for a box to be the least around a list of records. Assumes nothing.
use Rattle.std.specs.Prelude.{◌≡◌, ◌≤◌, true, ◌⊎◌, List, [], ◌∷◌, ◌++◌, length}
use Rattle.std.specs.List.{AllByRecursion}
use Rattle.domain.specs.Meaning.{Meaning}
use Rattle.domain.specs.Boxes.{join_boxes, box_loss}
use Rattle.domain.specs.BoxLaws.{Allowed, Admitted, InsideBox}
use Rattle.domain.specs.BoxLaws as laws
use Rattle.rules.specs.declared.Entry.{Entry}
use Rattle.rules.specs.Choosing.{In}
use Rattle.rules.specs.Clusters.{Box, values, widened, box_of, cost, covers_entry}

-- each known attribute's value is admitted
abbrev pub Fit : Meaning → Entry → Type 0
Fit m e = Admitted m (values e)

abbrev pub CoversAll : Meaning → Box → List Entry → Type 0
CoversAll m b es = AllByRecursion (λ e. covers_entry m b e ≡ true) es

-- of the boxes of allowed ranges that cover the records, the one inside all others
pub record LeastAround (m : Meaning) (es : List Entry) (b : Box) : Type 0 where
  pub is_box : laws.Box m b
  pub covering : CoversAll m b es
  pub least : (k : Box) → Allowed m k → CoversAll m k es → InsideBox m b k

-- `box_of` is that box, no other is, and no other loses less
pub record BoxesRecords (m : Meaning) (es : List Entry) : Type 0 where
  pub is_least : LeastAround m es (box_of m es)
  pub no_other : (b : Box) → LeastAround m es b → b ≡ box_of m es
  pub cheapest : (k : Box) → Allowed m k → CoversAll m k es → cost m es ≤ box_loss m k

-- the records of gs are those of es and of fs
pub record Together (es fs gs : List Entry) : Type 0 where
  pub either : AllByRecursion (λ e. In es e ⊎ In fs e) gs
  pub all_first : AllByRecursion (In gs) es
  pub all_second : AllByRecursion (In gs) fs

-- for records with admitted values
pub record BoxesStand : Type 0 where
  pub least : (m : Meaning) (es : List Entry) → 1 ≤ length es → AllByRecursion (Fit m) es → BoxesRecords m es
  -- more records lose no less, so that `raise` is a difference
  pub grows : (m : Meaning) (es more : List Entry) → AllByRecursion (Fit m) (es ++ more) → 1 ≤ length es → cost m es ≤ cost m (es ++ more)
  -- one record more widens the box; two lists of records have the join of their boxes
  pub wider : (m : Meaning) (es : List Entry) (e : Entry) → 1 ≤ length es → box_of m (es ++ e ∷ []) ≡ widened m (box_of m es) e
  pub joined : (m : Meaning) (es fs gs : List Entry) → 1 ≤ length es → 1 ≤ length fs → AllByRecursion (Fit m) es → AllByRecursion (Fit m) fs → Together es fs gs → box_of m gs ≡ join_boxes m (box_of m es) (box_of m fs)
