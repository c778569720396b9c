use Rattle.std.proofs.Common.{ℕ, rules, tests, ◌∙◌}
use Rattle.std.proofs.lemmas.Iterator.{YieldsList-from_slice, YieldsList-from_map}
use Rattle.std.proofs.lemmas.Iterator.Consumers.{YieldsList-at, YieldsList-from_enumerate}
use Rattle.pool.specs.declared.Cluster.{Cluster}
use Rattle.choice.specs.Offers.{offer_of, offers}
use Rattle.choice.proofs.Lowest.{min_from_chain}
use Rattle.choice.proofs.Weighing.{rank, by_rank, best_reduced}
use Rattle.choice.proofs.arrival.best_offer.Goals as goal

pub returns : goal.returns
returns g c =
    let m = g.D.Domain.meaning c.args.d.now in
    let mean = c.args.mean in
    let vs = c.args.values.now in
    let cs = c.args.clusters.now in
    min_from_chain rank by_rank _ (λ x k q h. search (rules, tests)) _ c.min_by_key.ensures.ran
    (YieldsList-from_map _ (λ (p : ℕ × Cluster). offer_of m mean vs p.0 p.1) (YieldsList-at c.map.ensures.source (YieldsList-from_enumerate (YieldsList-from_slice cs cc) cc)) c.map.ensures.closure (λ x r q k. search (rules, tests)))
    ∙ best_reduced (offers m mean vs cs)
