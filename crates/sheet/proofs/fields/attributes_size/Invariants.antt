use Rattle.std.proofs.Common.{◌≡◌, ◌*◌, ◌≤◌, map, length, take}
use Rattle.rfc4180.specs.Grammar.{with_commas}
use Rattle.sheet.specs.Rows.{attribute_field}
use Rattle.sheet.specs.Shown.{Small}
use Rattle.std.specs.List.{AllByRecursion}
use Rattle.sheet.proofs.fields.attributes_size.Given as goal

abbrev pub invariant-loop-range : goal.invariant-loop-range
invariant-loop-range l = (l.size ≡ length (with_commas (map (attribute_field l.manner) (take l.range-index l.ranges)))) × (l.size ≤ 26 * l.range-index) × AllByRecursion Small (take l.range-index l.ranges)
