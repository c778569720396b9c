use Rattle.std.proofs.Common.{◌≡◌, ◌≤◌, map, sum, sym, ap, ◌∙◌, subst, arith}
use Rattle.std.specs.List.{range_with_len}
use Rattle.domain.specs.Meaning.{loss_of}
use Rattle.domain.specs.Boxes.{range_at, known_count, box_loss}
use Rattle.domain.proofs.Places.{loss_le, sum_more, loss_mono}
use Rattle.domain.proofs.boxes.box_loss.Goals as goal

pub loop-i-preserved : goal.loop-i-preserved
loop-i-preserved g c =
    let m = g.D.Domain.meaning c.args.d.now in
    let b = c.args.bounds.now in
    let e = c.loss-sum.ensures in
    let more = sum_more (λ k. loss_of m k (range_at b k)) c.loop-i.i in
    (omega (arith, loss_le m c.loop-i.i (range_at b c.loop-i.i)), cc)

pub returns : goal.returns
unfolding box_loss
returns g c =
    let m = g.D.Domain.meaning c.args.d.now in
    let b = c.args.bounds.now in
    let n : c.loop-i.i ≡ known_count m = omega arith in
    let e : c.loop-i.sum ≡ box_loss m b = c.loop-i.invariant.1 ∙ ap (λ k. sum (map (λ i. loss_of m i (range_at b i)) (range_with_len 0 k))) n in
    record { value = e; bound = omega arith; least = λ p k q h. subst (λ x. x ≤ box_loss m k) (sym e) (loss_mono m b k p q h) }
