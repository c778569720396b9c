use Rattle.std.proofs.Common.{◌≡◌, ◌+◌, true, length, vec_items, sym, refl, ap, ◌∙◌, subst, arith}
use Rattle.std.specs.Vec.{with_items}
use Rattle.std.specs.Option.{option_to_list}
use Rattle.std.proofs.lemmas.List.{with_items_is}
use Rattle.keeper.specs.Keeping.{Keeps, Takes}
use Rattle.rules.specs.States.{below_mean}
use Rattle.ledger.specs.declared.kept.KeptBox.{KeptBox}
use Rattle.ledger.specs.KeptBoxes.{rank_of, no_kept}
use Rattle.ledger.proofs.Offers.{box_loss_le}
use Rattle.ledger.proofs.Entries.{was_offered}
use Rattle.ledger.proofs.ledger.Ledger.enter.Goals as goal

pub returns-then-is_below_mean-clause-entered : goal.returns-then-is_below_mean-clause-entered
returns-then-is_below_mean-clause-entered c = λ m g w k e l.
    let v = c.args.self.now.kept in
    let ys = c.offer.new.places in
    let number = c.saturating_add-number.result in
    let new : KeptBox = record { loss = c.args.loss; number = number; ranges = c.args.bounds.now } in
    let was = c.deref_mut.ensures.value in
    let count : length ys ≡ v.len = omega (arith, c.offer.auto.places, c.deref_mut.ensures.len) in
    let filled : vec_items (with_items v ys) ≡ ys = with_items_is v ys count in
    let long : length (vec_items (with_items v ys)) ≡ length (vec_items v) = ap length filled ∙ omega (arith, count, v.ok.0) in
    let next : number ≡ c.args.self.now.made + 1 = omega (arith, c.saturating_add-number.ensures) in
    let low = c.offer.ensures.every_item (omega (arith, e, box_loss_le m c.args.bounds.now)) in
    let takes = c.offer.ensures.takes low k.given (subst (λ l. Keeps rank_of no_kept l k.given) (sym was) k.keeps) in
    let below : below_mean c.enter.new.self.latest.items c.args.loss ≡ true = cc in
    was_offered m g c.args.self.now _ c.args.bounds.now c.args.loss number
    (record { window = w; well = k; costs = e; next = next; counted = refl; latest = c.enter.ensures.latest; places = long })
    (option_to_list c.offer.result)
    below
    (subst (λ l. Takes rank_of no_kept k.given l new (vec_items (with_items v ys)) (option_to_list c.offer.result)) was (subst (λ l. Takes rank_of no_kept k.given c.deref_mut.result.now new l (option_to_list c.offer.result)) (sym filled) takes))
