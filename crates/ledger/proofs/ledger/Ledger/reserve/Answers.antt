use Rattle.std.proofs.Common.{◌≡◌, ℕ, List, [], map, length, replicate, vec_items, sym, ap, ◌∙◌, subst}
use Rattle.std.specs.List.{AllByRecursion}
use Rattle.std.proofs.lemmas.List.{length-replicate}
use Rattle.keeper.specs.Keeping.{Keeps}
use Rattle.keeper.proofs.Keepers.{keeps_nothing}
use Rattle.rules.specs.States.{Boxes}
use Rattle.ledger.specs.declared.kept.KeptBox.{KeptBox}
use Rattle.ledger.specs.KeptBoxes.{kept_of, rank_of, no_kept}
use Rattle.ledger.specs.Ledgers.{Priced}
use Rattle.ledger.proofs.Offers.{nothing_in}
use Rattle.ledger.proofs.ledger.Ledger.reserve.Goals as goal

boxes_of : List KeptBox → List ℕ → Boxes
boxes_of bs ls = record { kept = map kept_of bs; losses = ls; made = 0 }

pub returns : goal.returns
unfolding boxes_of
returns c =
    let n = c.args.rho in
    let places = vec_items c.in_ok-vec.field-0 in
    let free : places ≡ replicate n no_kept = c.in_ok-vec.ensures.items_if_clones_equal (λ y h. h) in
    let keeps : Keeps rank_of no_kept places [] = keeps_nothing rank_of no_kept n places free in
    let none = nothing_in places keeps in
    let long : length places ≡ n = ap length free ∙ length-replicate n no_kept in
    record {
      window = c.in_ok-reserve.ensures.window;
      places = long;
      nothing = ap (λ l. boxes_of l c.in_ok-reserve.field-0.latest.items) none ∙ ap (boxes_of []) c.in_ok-reserve.ensures.none;
      well = λ m. record { places = long; given = []; keeps = keeps; priced = subst (AllByRecursion (Priced m)) (sym none) tt };
    }
