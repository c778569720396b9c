use Rattle.std.proofs.Common.{◌-◌, rules, tests, ap, ◌∙◌}
use Rattle.domain.specs.Boxes.{range_at}
use Rattle.choice.proofs.Widened.{losses_joined}
use Rattle.choice.proofs.joining.Rise.of.Goals as goal

pub returns : goal.returns
returns g c =
    let m = g.D.Domain.meaning c.args.d.now in
    let l = c.loss_joined-loss.ensures (range_at c.args.other.now.bounds) (λ i r k. search (rules, tests)) ∙ losses_joined m c.args.own.now.bounds c.args.other.now.bounds in
    let e = c.saturating_sub.ensures ∙ ap (λ k. k - c.args.own.now.loss) l in
    λ i. record { place = c.args.place; raise = e i }
