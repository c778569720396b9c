use Rattle.std.proofs.Common.{◌≡◌, ◌-◌, ◌^◌, ◌<◌, true, not, length, set, vec_items, vec_len, vec_capacity, sym, refl, ap, ◌∙◌, arith}
use Rattle.std.proofs.lemmas.List.{get_or_read}
use Rattle.std.proofs.lemmas.Bool.{and_from, lt-ltb, cond-true}
use Rattle.rules.specs.Choosing.{listed}
use Rattle.rules.specs.Clusters.{owner, owners, values, members}
use Rattle.pool.specs.Changes.{can_join, held_also, with_record}
use Rattle.pool.specs.Tables.{label_at, table}
use Rattle.pool.proofs.Rows.{label_at_is, joined_table}
use Rattle.pool.proofs.Pool.join.Goals as goal

pub returns-in-Some : goal.returns-in-Some
returns-in-Some g c =
    let m = g.D.Domain.meaning c.args.d.now in
    let p = c.args.self.now in
    let e = c.args.entry in
    let at = c.args.at in
    let hs = vec_items p.held in
    let cs = vec_items p.clusters in
    let lent = c.in-Some.cluster.now in
    let in_table = c.in-Some.ensures.variant.0 refl in
    let within : at < length cs = omega arith in
    let few : length hs < 2 ^ 64 - 1 = omega arith in
    let yes : can_join p at ≡ true = and_from _ _ (lt-ltb at (vec_len p.clusters) (omega arith)) (lt-ltb (vec_len p.held) (vec_capacity p.held) (omega arith)) in
    let label = label_at_is cs at lent within c.in-Some.ensures.value in
    let known = c.has_owner-new_owner.ensures ∙ ap (λ ks. listed (owner e) (owners (members lent.label ks))) c.as_slice.ensures.value ∙ ap (λ l. listed (owner e) (owners (members l hs))) label in
    let new = not (listed (owner e) (owners (members (label_at cs at) hs))) in
    let read = get_or_read cs at lent within c.in-Some.ensures.value in
    let row = c.take_record.ensures ∙ ap (λ b. with_record m (values e) (not b) lent) known in
    let held = c.push_reserved.ensures.items ∙ ap (λ l. held_also l e hs) label in
    record {
      held = held ∙ sym (cond-true _ _ hs yes);
      clusters = λ x. ap (set cs at) (row ∙ ap (with_record m (values e) new) (read x)) ∙ sym (cond-true _ _ cs yes);
      faithful = λ f. ap (set cs at) (row ∙ ap (with_record m (values e) new) (read lent)) ∙ joined_table m hs cs at lent e new f within few refl ∙ ap (table m) (sym held);
      memory = record { for_held = c.push_reserved.ensures.capacity; for_clusters = refl };
    }
