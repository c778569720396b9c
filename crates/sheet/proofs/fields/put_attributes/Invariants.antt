use Rattle.std.proofs.Common.{◌≡◌, ◌+◌, ◌≤◌, ◌++◌, map, length, drop}
use Rattle.std.specs.Iterator.Adapters.{rev_source}
use Rattle.std.specs.Slice.Iter.{iter_rest}
use Rattle.rfc4180.specs.Grammar.{with_commas}
use Rattle.sheet.specs.Rows.{attribute_field}
use Rattle.sheet.proofs.fields.put_attributes.Given as goal

abbrev pub invariant-loop-range : goal.invariant-loop-range
invariant-loop-range l =
    (goal.iterator-loop-range).can_next l.range-iterator
    × (goal.iterator-loop-range).is_finite l.range-iterator
    × (l.start ≤ l.end)
    × (l.start + length (with_commas (map (attribute_field l.manner) l.ranges)) ≡ l.end + length (with_commas (map (attribute_field l.manner) (iter_rest (rev_source l.range-iterator)))))
    × (with_commas (map (attribute_field l.manner) (iter_rest (rev_source l.range-iterator))) ++ drop l.start l.area ≡ with_commas (map (attribute_field l.manner) l.ranges) ++ drop l.end l.fn.area)
