use Rattle.std.proofs.Common.{ℕ, [], ◌∷◌, ◌++◌, map, sym, ap, ◌∙◌, arith}
use Rattle.std.specs.List.{range_with_len}
use Rattle.std.proofs.lemmas.List.FromFn.{map-range_with_len_more}
use Rattle.split.specs.declared.Part.{Part}
use Rattle.split.specs.Parted.{marked, part_of}
use Rattle.split.proofs.boxes.measure.Goals as goal

pub loop-j-preserved : goal.loop-j-preserved
loop-j-preserved g c =
    let m = g.D.Domain.meaning c.args.d.now in
    let f : ℕ → Part = λ j. part_of m (marked j c.args.members.now) in
    let j = c.loop-j.j in (
      c.push_reserved.ensures.items ∙ ap (λ l. l ++ c.part_of.result ∷ []) c.loop-j.invariant.0 ∙ ap (λ x. map f (range_with_len 0 j) ++ x ∷ []) c.part_of.ensures ∙ sym (map-range_with_len_more f 0 j j (omega arith)),
      omega arith,
      c.push_reserved.ensures.capacity ∙ c.loop-j.invariant.2,
    )
