use Rattle.std.proofs.Common.{◌≡◌, ◌<◌, true, ltb, length, vec_items, vec_len, sym, ap, ◌∙◌, arith}
use Rattle.std.specs.List.{remove}
use Rattle.std.proofs.lemmas.Bool.{lt-ltb, cond-true}
use Rattle.pool.specs.Changes.{label_of, renewed}
use Rattle.pool.specs.Tables.{table}
use Rattle.pool.proofs.Rows.{left_table, label_of_at}
use Rattle.pool.proofs.Pool.leave.Goals as goal

pub returns-then-at-len : goal.returns-then-at-len
returns-then-at-len g c =
    let m = g.D.Domain.meaning c.args.d.now in
    let p = c.args.self.now in
    let at = c.args.at in
    let hs = vec_items p.held in
    let cs = vec_items p.clusters in
    let within : at < length hs = omega arith in
    let yes : ltb at (vec_len p.held) ≡ true = lt-ltb _ _ (omega arith) in
    let gone = c.remove-gone.ensures in
    let label = label_of_at hs at c.remove-gone.result within gone.value in
    let row = c.renew.ensures.clusters ∙ ap (λ ks. renewed m ks c.remove-gone.result.label cs) gone.items ∙ ap (λ l. renewed m (remove hs at) l cs) label in
    record {
      held = ap vec_items c.renew.ensures.held ∙ gone.items ∙ sym (cond-true _ _ hs yes);
      clusters = row ∙ sym (cond-true _ _ cs yes);
      faithful = λ f. row ∙ ap (renewed m (remove hs at) (label_of hs at)) f ∙ left_table m hs at within ∙ ap (table m) (sym (ap vec_items c.renew.ensures.held ∙ gone.items));
      memory = record { for_held = c.renew.ensures.memory.for_held ∙ gone.capacity; for_clusters = c.renew.ensures.memory.for_clusters };
    }
