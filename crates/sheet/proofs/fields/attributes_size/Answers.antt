use Rattle.std.proofs.Common.{map, length, ap, ◌∙◌, subst, arith}
use Rattle.std.specs.List.{AllByRecursion}
use Rattle.sheet.specs.Shown.{Small}
use Rattle.rfc4180.specs.Grammar.{with_commas}
use Rattle.std.proofs.lemmas.List.{take_all}
use Rattle.std.proofs.ByRecursion.{All-more}
use Rattle.sheet.specs.Rows.{attribute_field}
use Rattle.sheet.proofs.Steps.{attributes_size_more}
use Rattle.sheet.proofs.fields.attributes_size.Goals as goal

pub loop-range-preserved : goal.loop-range-preserved
loop-range-preserved c =
    let more = attributes_size_more (attribute_field c.args.manner) c.args.ranges.now c.loop-range.range-index (record { low = 0; high = 0 }) (omega arith) in
    (omega (arith, more), omega arith, All-more Small c.args.ranges.now c.loop-range.range-index (record { low = 0; high = 0 }) (omega arith) c.loop-range.invariant.2 c.attribute_size.ensures.small)

pub returns : goal.returns
returns c =
    let all = ap (λ l. length (with_commas (map (attribute_field c.args.manner) l))) (take_all c.loop-range.range-index c.args.ranges.now (omega arith)) in
    record { value = c.loop-range.invariant.0 ∙ all; bound = omega arith; small = subst (AllByRecursion Small) (take_all c.loop-range.range-index c.args.ranges.now (omega arith)) c.loop-range.invariant.2 }
