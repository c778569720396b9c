use Rattle.std.proofs.Common.{◌≡◌, sym, subst, arith}
use Rattle.domain.specs.Boxes.{point_box, join_boxes}
use Rattle.domain.specs.BoxLaws.{LeastWider}
use Rattle.domain.proofs.Places.{widened_is, widened_least}
use Rattle.domain.proofs.boxes.widen.Goals as goal

pub returns : goal.returns
returns g c =
    let m = g.D.Domain.meaning c.args.d.now in
    let old = c.args.bounds.now in
    let vs = c.args.values.now in
    let inv = c.loop-i.invariant in
    let e : c.loop-i.bounds ≡ join_boxes m old (point_box m vs) =
    widened_is m old vs c.loop-i.bounds inv.2 (λ k l. inv.0 k (omega arith)) (λ k l. inv.1 k (omega arith)) in
    record { value = e; least = λ p q. subst (LeastWider m old vs) (sym e) (widened_least m old vs p q) }
