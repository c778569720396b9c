use Rattle.std.proofs.Common.{rules, tests, sym, ◌∙◌}
use Rattle.std.proofs.lemmas.Bool.{cond-true, cond-false}
use Rattle.domain.specs.Ranges.{point}
use Rattle.domain.specs.Boxes.{value_at, covers}
use Rattle.choice.specs.Losses.{loss_beside}
use Rattle.choice.proofs.Widened.{covered_loss, losses_widened}
use Rattle.choice.proofs.losses.loss_with.Goals as goal

pub returns-then-covers : goal.returns-then-covers
returns-then-covers g c =
    let m = g.D.Domain.meaning c.args.d.now in
    let b = c.args.cluster.now.bounds in
    let vs = c.args.values.now in
    let e = sym c.if-covers.ensures in
    record {
      value = sym (cond-true (covers m b vs) c.args.cluster.now.loss (loss_beside m c.args.cluster.now vs) e);
      widened = λ p q l. l ∙ sym (covered_loss m b vs p q e);
    }

pub returns-else-covers : goal.returns-else-covers
returns-else-covers g c =
    let m = g.D.Domain.meaning c.args.d.now in
    let b = c.args.cluster.now.bounds in
    let vs = c.args.values.now in
    let e = sym c.if-covers.ensures in
    let r = c.loss_joined.ensures (λ i. point (value_at vs i)) (λ i r k. search (rules, tests)) ∙ losses_widened m b vs in
    record {
      value = r ∙ sym (cond-false (covers m b vs) c.args.cluster.now.loss (loss_beside m c.args.cluster.now vs) e);
      widened = λ p q l. r;
    }
