use Rattle.std.proofs.Common.{◌≡◌, Some, None, unwrap_or, filter, ap, ◌∙◌, rules, tests}
use Rattle.std.proofs.lemmas.Iterator.{YieldsList-from_slice}
use Rattle.std.proofs.lemmas.Iterator.Consumers.{YieldsList-from_filter, fold_from_yields_List}
use Rattle.rules.specs.Clusters.{no_box, values}
use Rattle.split.specs.Parted.{says}
use Rattle.pool.specs.Tables.{widened}
use Rattle.split.proofs.Marked.{boxes_fold}
use Rattle.split.proofs.boxes.box_around.Goals as goal

pub returns : goal.returns
returns g c =
    let m = g.D.Domain.meaning c.args.d.now in
    let j = c.args.part in
    let ms = c.args.members.now in
    let folded = fold_from_yields_List _ (λ b x. Some (widened m b (values x.entry))) None c.fold.result c.fold.ensures.ran
    (YieldsList-from_filter _ (λ x. says j x.part) (YieldsList-from_slice ms cc) c.filter.ensures.closure (λ x b q k. search (rules, tests)))
    (λ a x b q k. search (rules, tests)) in
    let base : c.unwrap_or.result ≡ unwrap_or c.fold.result no_box = search rules in
    base ∙ ap (λ o. unwrap_or o no_box) folded ∙ boxes_fold m (filter (λ x. says j x.part) ms)
