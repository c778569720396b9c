use Rattle.std.proofs.Common.{◌++◌, map, length, drop, sym, ap, ◌∙◌, arith}
use Rattle.std.specs.Iterator.Adapters.{rev_source}
use Rattle.std.specs.Slice.Iter.{iter_rest}
use Rattle.std.proofs.lemmas.List.{nil_from_length}
use Rattle.rfc4180.specs.Grammar.{written, with_commas}
use Rattle.sheet.specs.Rows.{attribute_field}
use Rattle.sheet.proofs.Steps.{attributes_onto, attributes_size_back}
use Rattle.sheet.proofs.fields.put_attributes.Goals as goal

pub put_byte-comma-requires : goal.put_byte-comma-requires
put_byte-comma-requires c =
    let f = attribute_field c.args.manner in
    let size = ap (λ l. length (with_commas (map f l))) c.in-Some.ensures.steps ∙ attributes_size_back f (iter_rest (rev_source c.next.new.self)) c.in-Some.range.now in
    omega (arith, size)

pub put_attribute-start-requires : goal.put_attribute-start-requires
put_attribute-start-requires c =
    let f = attribute_field c.args.manner in
    let size = ap (λ l. length (with_commas (map f l))) c.in-Some.ensures.steps ∙ attributes_size_back f (iter_rest (rev_source c.next.new.self)) c.in-Some.range.now in
    omega (arith, size)

pub returns-clause-start : goal.returns-clause-start
returns-clause-start c =
    let none = nil_from_length (iter_rest (rev_source c.loop-range.range-iterator)) c.in-None.ensures.steps.0 in
    omega (arith, ap (λ l. length (with_commas (map (attribute_field c.args.manner) l))) none)

pub returns-clause-written : goal.returns-clause-written
returns-clause-written c =
    let none = nil_from_length (iter_rest (rev_source c.loop-range.range-iterator)) c.in-None.ensures.steps.0 in
    ap (λ l. with_commas (map (attribute_field c.args.manner) l) ++ drop c.loop-range.start c.loop-range.area) (sym none) ∙ c.loop-range.invariant.4

pub loop-range-preserved : goal.loop-range-preserved
loop-range-preserved c =
    let f = attribute_field c.args.manner in
    let rest = iter_rest (rev_source c.next.new.self) in
    let x = c.in-Some.range.now in
    let size = ap (λ l. length (with_commas (map f l))) c.in-Some.ensures.steps ∙ attributes_size_back f rest x in (
      tt,
      tt,
      omega arith,
      omega (arith, size),
      ap (λ l. with_commas (map f rest) ++ l) (c.put_attribute-start.ensures.written ∙ ap (λ l. written (f x) ++ l) c.put_byte-comma.ensures.written)
          ∙ attributes_onto f rest x _ ∙ ap (λ l. with_commas (map f l) ++ drop c.loop-range.start c.loop-range.area) (sym c.in-Some.ensures.steps) ∙ c.loop-range.invariant.4,
    )
