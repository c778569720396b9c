use Rattle.std.proofs.Common.{◌≡◌, ◌<◌, true, not, eqb, rules, map, length, get_or, vec_items, vec_len, sym, ap, ◌∙◌, subst, arith}
use Rattle.std.proofs.lemmas.Bool.{and_from, lt-ltb, ne_eqb, cond-true}
use Rattle.std.proofs.lemmas.List.{get_or_read}
use Rattle.std.proofs.lemmas.Fn.{filter_same}
use Rattle.domain.specs.Boxes.{box_loss}
use Rattle.rules.specs.Clusters.{size, records, members}
use Rattle.rules.specs.Turn.{merged}
use Rattle.rules.proofs.Turns.{merged_records}
use Rattle.pool.specs.Changes.{are_two, other_rows, replaced, union, taken_over}
use Rattle.pool.specs.Tables.{label_at, table}
use Rattle.pool.proofs.Rows.{label_at_is, taken_over_table}
use Rattle.pool.proofs.Pool.merge.Goals as goal

pub returns-in-Some-Some : goal.returns-in-Some-Some
returns-in-Some-Some g c =
    let m = g.D.Domain.meaning c.args.d.now in
    let p = c.args.self.now in
    let i = c.args.at in
    let j = c.args.other in
    let hs = vec_items p.held in
    let xs = vec_items p.clusters in
    let x = c.in-Some-Some.field-0-0.now in
    let y = c.in-Some-Some.field-0-1.now in
    let some = c.in-Some-Some in
    let first : i < length xs = subst (λ t. i < length t) c.deref.ensures.value some.ensures.lookup.3.0 in
    let second : j < length xs = subst (λ t. j < length t) c.deref-2.ensures.value some.ensures'.lookup.3.0 in
    let yes : are_two p i j ≡ true = and_from _ _ (lt-ltb i (vec_len p.clusters) (omega arith)) (and_from _ _ (lt-ltb j (vec_len p.clusters) (omega arith)) (ap not (ne_eqb i j c.if-at-other.false))) in
    let held = c.relabel.ensures.items in
    let count = c.count_owners.ensures.value ∙ ap (λ ks. size (members x.label ks)) (c.as_slice.ensures.value ∙ held) in
    let b = c.join_boxes-bounds.ensures.value in
    let loss = c.box_loss.ensures.value ∙ ap (box_loss m) b in
    let row : record { label = x.label; size = c.count_owners.result; loss = c.box_loss.result; bounds = c.join_boxes-bounds.result } ≡ union m hs x y =
    λ k. record { label = x.label; size = count k; loss = loss k; bounds = b k } in
    let rows = filter_same _ (λ z. not (eqb z.label y.label)) _ (λ z b f' k. search rules) _ _ c.retain.ensures.filtered ∙ ap (other_rows y.label) (c.put_row.ensures.items ∙ ap (λ r. map (replaced r) xs) row) in
    let at : x ≡ get_or xs i x = some.ensures.lookup.3.1 x ∙ ap (λ t. get_or t i x) c.deref.ensures.value in
    let at' : y ≡ get_or xs j y = some.ensures'.lookup.3.1 y ∙ ap (λ t. get_or t j y) c.deref-2.ensures.value in
    record {
      held = held ∙ ap (λ l. merged l y.label hs) (label_at_is xs i x first at) ∙ ap (λ l. merged (label_at xs i) l hs) (label_at_is xs j y second at') ∙ sym (cond-true _ _ hs yes);
      same_records = ap records held ∙ merged_records x.label y.label hs;
      clusters = λ z. rows ∙ ap (λ t. taken_over m hs t y xs) (get_or_read xs i x first at z) ∙ ap (λ t. taken_over m hs (get_or xs i z) t xs) (get_or_read xs j y second at' z) ∙ sym (cond-true _ _ xs yes);
      faithful = λ a f. rows ∙ taken_over_table m hs xs f i j x y first second c.if-at-other.false at at' a ∙ ap (table m) (sym held);
      memory = record { for_held = c.relabel.ensures.memory; for_clusters = c.retain.ensures.capacity ∙ c.put_row.ensures.memory };
    }
