use Rattle.std.proofs.Common.{◌≡◌, map, sum, ap, ◌∙◌, arith}
use Rattle.std.specs.List.{range_with_len}
use Rattle.domain.specs.Meaning.{join_of, loss_of}
use Rattle.domain.specs.Boxes.{range_at, known_count}
use Rattle.domain.proofs.Places.{loss_le, sum_more}
use Rattle.choice.proofs.losses.loss_joined.Goals as goal

pub loop-i-preserved : goal.loop-i-preserved
loop-i-preserved g c =
    let m = g.D.Domain.meaning c.args.d.now in
    let i = c.loop-i.i in
    let e = c.loss-sum.ensures in
    let j = c.join.ensures in
    let le = loss_le m i c.join.result in (
      omega arith,
      λ h k.
          let inv = c.loop-i.invariant.1 h k in
          let here = k i c.other.result c.other.ensures in
          let more = sum_more (λ i. loss_of m i (join_of m i (range_at c.args.bounds.now i) (h i))) i in
          cc,
    )

pub returns : goal.returns
returns g c =
    let m = g.D.Domain.meaning c.args.d.now in
    let end : c.loop-i.i ≡ known_count m = omega arith in
    λ h k. c.loop-i.invariant.1 h k ∙ ap (λ n. sum (map (λ i. loss_of m i (join_of m i (range_at c.args.bounds.now i) (h i))) (range_with_len 0 n))) end
