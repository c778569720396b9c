-- A ledger that a box entered, in the words of the rules. Assumes nothing.
use Rattle.std.proofs.Common.{◌≡◌, ℕ, ◌+◌, true, false, cond, List, [], ◌∷◌, ◌++◌, map, take, vec_items, sym, ap, ◌∙◌, subst}
use Rattle.std.specs.List.{AllByRecursion}
use Rattle.domain.specs.declared.range.Range.{Range}
use Rattle.domain.specs.Meaning.{Meaning}
use Rattle.domain.specs.Boxes.{box_loss}
use Rattle.release.specs.declared.Settings.{Settings}
use Rattle.keeper.specs.Keeping.{Keeps, Takes, items_in}
use Rattle.keeper.specs.Leasts.{leasts}
use Rattle.rules.specs.States.{Kept, Boxes, below_mean, offered}
use Rattle.rules.specs.Release.{entered_mean}
use Rattle.ledger.specs.declared.kept.KeptBox.{KeptBox}
use Rattle.ledger.specs.declared.ledger.Ledger.{Ledger}
use Rattle.ledger.specs.KeptBoxes.{kept_of, rank_of, no_kept}
use Rattle.ledger.specs.Ledgers.{window_of, places_of, kept_boxes, ledger_boxes, Priced, KeptWell, Enters}
use Rattle.ledger.proofs.Offers.{priced, forget_priced, all_priced, offered_is}

boxes_of : List Kept → List ℕ → ℕ → Boxes
boxes_of kept losses made = record { kept = kept; losses = losses; made = made }

-- the rules' boxes, of their parts
entered_from : (m : Meaning) (g : Settings) (bs : Boxes) (b : Kept) (loss : ℕ) (kept : List Kept) (losses : List ℕ) (made : ℕ)
    → loss ≡ box_loss m b.ranges → losses ≡ take g.mu (loss ∷ bs.losses) → made ≡ b.number
    → kept ≡ cond (below_mean losses loss) (offered m g.rho bs.kept b) bs.kept
    → boxes_of kept losses made ≡ entered_mean m g bs b
unfolding boxes_of
entered_from m g bs b loss kept losses made priced latest counted offer =
    let now = latest ∙ ap (λ x. take g.mu (x ∷ bs.losses)) priced in
    ap (λ k. boxes_of k losses made) offer
    ∙ ap (λ l. boxes_of (cond (below_mean l loss) (offered m g.rho bs.kept b) bs.kept) l made) now
    ∙ ap (λ n. boxes_of (cond (below_mean (take g.mu (box_loss m b.ranges ∷ bs.losses)) loss) (offered m g.rho bs.kept b) bs.kept) (take g.mu (box_loss m b.ranges ∷ bs.losses)) n) counted
    ∙ ap (λ x. boxes_of (cond (below_mean (take g.mu (box_loss m b.ranges ∷ bs.losses)) x) (offered m g.rho bs.kept b) bs.kept) (take g.mu (box_loss m b.ranges ∷ bs.losses)) b.number) priced

module _ (m : Meaning) (g : Settings) (before after : Ledger) (bounds : List Range) (loss number : ℕ) where
  -- the box as the rules have it, and as it is offered
  abbrev pub new : Kept
  new = record { number = before.made + 1; ranges = bounds }

  abbrev pub item : KeptBox
  item = record { loss = loss; number = number; ranges = bounds }

  -- what holds either way
  pub record Entry : Type 0 where
    pub window : g.mu ≡ window_of before
    pub well : KeptWell m g.rho before
    pub costs : loss ≡ box_loss m bounds
    pub next : number ≡ before.made + 1
    pub counted : after.made ≡ number
    pub latest : (ledger_boxes after).losses ≡ take (window_of before) (loss ∷ (ledger_boxes before).losses)
    pub places : places_of after ≡ places_of before

  entered_if : Entry → (kept : List Kept) → map kept_of (kept_boxes after) ≡ kept → kept ≡ cond (below_mean (ledger_boxes after).losses loss) (offered m g.rho (ledger_boxes before).kept new) (ledger_boxes before).kept → ledger_boxes after ≡ entered_mean m g (ledger_boxes before) new
  unfolding boxes_of
  entered_if h kept e o =
      entered_from m g (ledger_boxes before) new loss (map kept_of (kept_boxes after)) (ledger_boxes after).losses after.made h.costs
      (h.latest ∙ ap (λ n. take n (loss ∷ (ledger_boxes before).losses)) (sym h.window)) (h.counted ∙ h.next) (e ∙ o)

  pub not_offered : Entry → below_mean (ledger_boxes after).losses loss ≡ false → vec_items after.kept ≡ vec_items before.kept → Enters m g before new after
  not_offered h f e =
      let same : kept_boxes after ≡ kept_boxes before = ap (items_in rank_of no_kept) e in
      let was = h.well in
      record {
        boxes = entered_if h (map kept_of (kept_boxes before)) (ap (map kept_of) same) (ap (λ t. cond t (offered m g.rho (ledger_boxes before).kept new) (ledger_boxes before).kept) (sym f));
        well = record {
          places = h.places ∙ was.places;
          given = was.given;
          keeps = subst (λ l. Keeps rank_of no_kept l was.given) (sym e) was.keeps;
          priced = subst (AllByRecursion (Priced m)) (sym same) was.priced;
        };
      }

  pub was_offered : (h : Entry) (out : List KeptBox) → below_mean (ledger_boxes after).losses loss ≡ true → Takes rank_of no_kept h.well.given (vec_items before.kept) item (vec_items after.kept) out → Enters m g before new after
  was_offered h out t takes =
      let was = h.well in
      let ks = offered m g.rho (ledger_boxes before).kept new in
      let held : kept_boxes after ≡ map (priced m) ks =
      takes.held
      ∙ ap (λ n. leasts rank_of n (kept_boxes before ++ item ∷ [])) was.places
      ∙ offered_is m g.rho (kept_boxes before) item was.priced h.costs
      ∙ ap (λ n. map (priced m) (offered m g.rho (ledger_boxes before).kept (record { number = n; ranges = bounds }))) h.next in
      record {
        boxes = entered_if h ks (ap (map kept_of) held ∙ forget_priced m ks) (ap (λ t. cond t ks (ledger_boxes before).kept) (sym t));
        well = record {
          places = h.places ∙ was.places;
          given = was.given ++ item ∷ [];
          keeps = takes.keeps;
          priced = subst (AllByRecursion (Priced m)) (sym held) (all_priced m ks);
        };
      }
