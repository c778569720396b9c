use Rattle.std.proofs.Common.{not, eqb, vec_items, sym, ap, ◌∙◌, rules}
use Rattle.std.proofs.lemmas.Fn.{filter_same}
use Rattle.pool.specs.Changes.{other_rows}
use Rattle.pool.specs.Tables.{table}
use Rattle.pool.proofs.Rows.{table_closed}
use Rattle.pool.proofs.Pool.close_cluster.Goals as goal

pub returns : goal.returns
returns c =
    let l = c.args.label in
    let p = c.args.self.now in
    let held = filter_same _ (λ h. not (eqb h.label l)) _ (λ x b f' k. search rules) _ _ c.retain.ensures.filtered in
    let rows = filter_same _ (λ x. not (eqb x.label l)) _ (λ x b f' k. search rules) _ _ c.retain-2.ensures.filtered in
    record {
      held = held;
      clusters = rows;
      faithful = λ m f. rows ∙ ap (other_rows l) f ∙ sym (table_closed m l (vec_items p.held)) ∙ ap (table m) (sym held);
      memory = record { for_held = c.retain.ensures.capacity; for_clusters = c.retain-2.ensures.capacity };
    }
