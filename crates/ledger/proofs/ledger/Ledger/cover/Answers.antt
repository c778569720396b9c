use Rattle.std.proofs.Common.{◌≡◌, Bool, filter, sym, ap, ◌∙◌, rules, tests}
use Rattle.std.specs.Option.{option_map}
use Rattle.std.proofs.lemmas.Iterator.{YieldsList-from_slice}
use Rattle.std.proofs.lemmas.Iterator.Search.{find_from_yields_List}
use Rattle.domain.specs.Boxes.{covers}
use Rattle.keeper.specs.Keeping.{items_in}
use Rattle.rules.specs.Choosing.{chosen}
use Rattle.ledger.specs.declared.kept.KeptBox.{KeptBox}
use Rattle.ledger.specs.KeptBoxes.{kept_of, rank_of, no_kept}
use Rattle.ledger.specs.Ledgers.{kept_boxes}
use Rattle.ledger.proofs.Firsts.{chosen_found, chosen_map}
use Rattle.ledger.proofs.ledger.Ledger.cover.Goals as goal

pub returns : goal.returns
returns g c =
    let m = g.D.Domain.meaning c.args.d.now in
    let p : KeptBox → Bool = λ b. covers m b.ranges c.args.values.now in
    let items = c.items.result.now in
    let held = c.items.ensures.front ∙ ap (items_in rank_of no_kept) c.deref.ensures.value in
    let first : c.copied.result ≡ chosen (filter p (kept_boxes c.args.self.now)) =
    c.copied.ensures
    ∙ find_from_yields_List p _ _ c.find.result c.find.ensures.ran (YieldsList-from_slice items cc) (λ x b q k. search (rules, tests))
    ∙ sym (chosen_found p items)
    ∙ ap (λ l. chosen (filter p l)) held in
    record { first = first; value = ap (option_map kept_of) first ∙ chosen_map kept_of (λ b. covers m b.ranges c.args.values.now) (kept_boxes c.args.self.now) }
