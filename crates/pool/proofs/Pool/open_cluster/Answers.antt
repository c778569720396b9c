use Rattle.std.proofs.Common.{◌≡◌, true, [], ◌∷◌, ◌++◌, vec_items, vec_len, vec_capacity, sym, ap, ◌∙◌, arith}
use Rattle.std.proofs.lemmas.Bool.{and_from, lt-ltb, cond-true}
use Rattle.pool.specs.Changes.{can_open, opened}
use Rattle.pool.specs.Tables.{table}
use Rattle.pool.proofs.Rows.{opened_is, table_opened}
use Rattle.pool.proofs.Pool.open_cluster.Goals as goal

pub returns-then-len-capacity-2 : goal.returns-then-len-capacity-2
returns-then-len-capacity-2 g c =
    let m = g.D.Domain.meaning c.args.d.now in
    let p = c.args.self.now in
    let e = c.args.entry in
    let hs = vec_items p.held in
    let cs = vec_items p.clusters in
    let yes : can_open p ≡ true = and_from _ _ (lt-ltb (vec_len p.held) (vec_capacity p.held) (omega arith)) (lt-ltb (vec_len p.clusters) (vec_capacity p.clusters) (omega arith)) in
    let push = c.push_reserved-then-len-capacity-2.ensures in
    let row = c.push_reserved.ensures.items ∙ ap (λ x. cs ++ x ∷ []) (opened_is m e c.box_loss.result c.point_box-bounds.result c.point_box-bounds.ensures.value c.box_loss.ensures.value) in
    record {
      held = push.items ∙ sym (cond-true _ _ hs yes);
      clusters = row ∙ sym (cond-true _ _ cs yes);
      faithful = λ a f. row ∙ ap (λ xs. xs ++ opened m e ∷ []) f ∙ sym (table_opened m hs e a) ∙ ap (table m) (sym push.items);
      memory = record { for_held = push.capacity; for_clusters = c.push_reserved.ensures.capacity };
    }
