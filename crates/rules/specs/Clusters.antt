-- Accepted records, owners, clusters, boxes and losses. Lists of records stand by position. Assumes nothing.
use Rattle.std.specs.Prelude.{ℕ, ◌-◌, Bool, not, List, [], ◌∷◌, ◌++◌, map, length, replicate, fold, filter, ◌==◌, nat_eq}
use Rattle.domain.specs.declared.range.Range.{Range}
use Rattle.domain.specs.Ranges.{point}
use Rattle.domain.specs.Meaning.{Meaning, places}
use Rattle.domain.specs.Boxes.{point_box, join_boxes, box_loss, covers}
use Rattle.release.specs.declared.Record.{Record}
use Rattle.rules.specs.declared.Entry.{Entry}
use Rattle.rules.specs.declared.Held.{Held}
use Rattle.rules.specs.Choosing.{Rank, in_order, different}

-- the record that was accepted at that position
abbrev pub entered : ℕ → Record → Entry
entered position r = record { position = position; fed = r }

abbrev pub owner : Entry → ℕ
owner e = e.fed.owner

abbrev pub values : Entry → List ℕ
values e = e.fed.values

-- ---- owners

-- the different owners, by their earliest records
abbrev pub owners : List Entry → List ℕ
owners es = different (map owner es)

-- how many different owners
abbrev pub size : List Entry → ℕ
size es = length (owners es)

abbrev pub records_of : ℕ → List Entry → List Entry
records_of w es = filter (λ e. nat_eq (owner e) w) es

-- ---- clusters: a cluster goes by its label, the position of the record that opened it

abbrev pub records : List Held → List Entry
records hs = map (λ h. h.entry) hs

abbrev pub members : ℕ → List Held → List Entry
members c hs = records (filter (λ h. nat_eq h.label c) hs)

-- what is held in other clusters
abbrev pub others : ℕ → List Held → List Held
others c hs = filter (λ h. not (h.label == c)) hs

abbrev pub by_age : ℕ → Rank
by_age c = record { first = c; second = 0 }

-- the open clusters, the oldest first
abbrev pub clusters : List Held → List ℕ
clusters hs = in_order by_age (different (map (λ h. h.label) hs))

-- ---- boxes

abbrev pub Box : Type 0
Box = List Range

-- six unused ranges
abbrev pub no_box : Box
no_box = replicate places (point 0)

-- widened to cover one record more
abbrev pub widened : Meaning → Box → Entry → Box
widened m b e = join_boxes m b (point_box m (values e))

-- the least box that covers the records
abbrev pub box_of : Meaning → List Entry → Box
box_of m [] = no_box
box_of m (e ∷ es) = fold (widened m) (point_box m (values e)) es

-- the loss of the records' box, and by how much more records raise it
abbrev pub cost : Meaning → List Entry → ℕ
cost m es = box_loss m (box_of m es)

abbrev pub raise : Meaning → List Entry → List Entry → ℕ
raise m es more = cost m (es ++ more) - cost m es

abbrev pub covers_entry : Meaning → Box → Entry → Bool
covers_entry m b e = covers m b (values e)
