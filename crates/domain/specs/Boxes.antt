-- Boxes: a list of ranges, one to a place, beside a record's values. Assumes nothing.
use Rattle.std.specs.Prelude.{ℕ, min, Bool, cond, List, map, sum, slice_index, slice_index_or}
use Rattle.std.specs.List.{range_with_len, list_all}
use Rattle.domain.specs.declared.range.Range.{Range}
use Rattle.domain.specs.Ranges.{point, within}
use Rattle.domain.specs.Meaning.{Meaning, places, known, join_of, loss_of}

-- what stands at place i
abbrev pub range_at : List Range → ℕ → Range
range_at b i = slice_index_or b i (point 0)

abbrev pub value_at : List ℕ → ℕ → ℕ
value_at vs i = slice_index vs i

-- how many attributes are known, and which
abbrev pub known_count : Meaning → ℕ
known_count m = min places m.n

abbrev pub attributes : Meaning → List ℕ
attributes m = range_with_len 0 (known_count m)

-- each passes the test
abbrev pub all_pass : {X : Type 0} → (X → Bool) → List X → Bool
all_pass p xs = list_all p xs

-- the box of one record: its values, and (0, 0) where no attribute is known
unfoldable pub point_box : Meaning → List ℕ → List Range
point_box m vs = map (λ i. point (cond (known m i) (value_at vs i) 0)) (range_with_len 0 places)

-- joined place by place; where no attribute is known, the first box's range
unfoldable pub join_boxes : Meaning → List Range → List Range → List Range
join_boxes m a b = map (λ i. join_of m i (range_at a i) (range_at b i)) (range_with_len 0 places)

-- the losses of its ranges, summed over the known attributes
unfoldable pub box_loss : Meaning → List Range → ℕ
box_loss m b = sum (map (λ i. loss_of m i (range_at b i)) (attributes m))

-- each known attribute's range covers its value
unfoldable pub covers : Meaning → List Range → List ℕ → Bool
covers m b vs = all_pass (λ i. within (range_at b i) (value_at vs i)) (attributes m)
