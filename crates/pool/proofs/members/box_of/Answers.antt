use Rattle.std.proofs.Common.{eqb, unwrap_or, replicate, rules, tests, ap, ◌∙◌}
use Rattle.std.proofs.lemmas.Iterator.{YieldsList-from_slice}
use Rattle.std.proofs.lemmas.Iterator.Consumers.{YieldsList-from_filter, fold_from_yields_List}
use Rattle.domain.specs.Meaning.{places}
use Rattle.rules.specs.Clusters.{no_box}
use Rattle.pool.proofs.Scans.{widened_by, box_folded}
use Rattle.pool.proofs.members.box_of.Goals as goal

pub returns : goal.returns
returns g c =
    let m = g.D.Domain.meaning c.args.d.now in
    let hs = c.args.held.now in
    let l = c.args.label in
    let folded = fold_from_yields_List _ (widened_by m) _ _ c.fold.ensures.ran (YieldsList-from_filter _ (λ h. eqb h.label l) (YieldsList-from_slice hs cc) c.filter.ensures.closure (λ x b q k. search (rules, tests))) (λ a x b q k. search (rules, tests)) in
    c.unwrap_or.ensures ∙ ap (λ r. unwrap_or c.fold.result (replicate places r)) c.point.ensures ∙ ap (λ b. unwrap_or b no_box) folded ∙ box_folded m l hs
