use Rattle.std.proofs.Common.{◌≡◌, ltb, length, IfSome, IfNone, ◌<◌, ◌⊎◌, sym, ap, ◌∙◌, subst}
use Rattle.rules.specs.Clusters.{values}
use Rattle.choice.specs.Offers.{offers, best_of, decided}
use Rattle.choice.specs.Places.{home_of}
use Rattle.choice.proofs.Weighing.{decided_within, decided_room}
use Rattle.choice.proofs.Candidates.{home_is, best_within, none_open}
use Rattle.choice.proofs.arrival.taker.Goals as goal

pub returns : goal.returns
returns g c =
    let m = g.D.Domain.meaning c.args.d.now in
    let mean = c.args.mean in
    let vs = c.args.values.now in
    let cs = c.args.clusters.now in
    let beta = c.args.beta in
    let best = c.best_offer-best.result in
    let is = c.best_offer-best.ensures in
    let r : c.decide.result ≡ decided (ltb (length cs) beta) best = c.decide.ensures in
    record {
      within = subst (λ o. IfSome o (λ i. i < length cs)) (sym r) (decided_within (length cs) (ltb (length cs) beta) best (λ b e. best_within m mean vs cs b (sym is ∙ e)));
      room = subst (λ o. IfNone o ((length cs < beta) ⊎ (length cs ≡ 0))) (sym r) (decided_room (length cs) beta best (λ e. none_open m mean vs cs (sym is ∙ e)));
      home = λ g' s e t of b v a f.
          home_is m s e mean cs t of a f g'
          ∙ ap (λ k. home_of (decided (ltb (length cs) k) (best_of (offers m mean (values e) cs))) cs e.position) b
          ∙ ap (λ us. home_of (decided (ltb (length cs) beta) (best_of (offers m mean us cs))) cs e.position) v
          ∙ ap (λ o. home_of (decided (ltb (length cs) beta) o) cs e.position) (sym is)
          ∙ ap (λ o. home_of o cs e.position) (sym r);
    }
