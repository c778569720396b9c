-- Kept boxes with their losses, and one more that is offered. Assumes nothing.
use Rattle.std.proofs.Common.{◌≡◌, ℕ, ◌≤◌, List, [], ◌∷◌, ◌++◌, map, length, sym, refl, ap, ◌∙◌, arith}
use Rattle.std.specs.List.{AllByRecursion}
use Rattle.std.proofs.lemmas.List.FromFn.{length-range_with_len}
use Rattle.std.proofs.ByRecursion.{All-push, sum_by_le}
use Rattle.std.proofs.lemmas.List.{map_push, take_all}
use Rattle.std.proofs.lemmas.List.Sums.{sum-map}
use Rattle.domain.specs.declared.range.Range.{Range}
use Rattle.domain.specs.Meaning.{Meaning, full_loss, loss_of}
use Rattle.domain.specs.Boxes.{range_at, attributes, known_count, box_loss}
use Rattle.domain.proofs.Places.{loss_le}
use Rattle.keeper.specs.Keeping.{Keeps, items_in}
use Rattle.keeper.specs.Leasts.{leasts}
use Rattle.keeper.proofs.Keepers.{items_are}
use Rattle.keeper.proofs.Leasts.{leasts_map}
use Rattle.rules.specs.States.{Kept, kept_rank, offered}
use Rattle.rules.proofs.KeeperRanks.{leasts_of_keeper}
use Rattle.ledger.specs.declared.kept.KeptBox.{KeptBox}
use Rattle.ledger.specs.KeptBoxes.{kept_of, rank_of, no_kept}
use Rattle.ledger.specs.Ledgers.{Priced}

pub nothing_in : (places : List KeptBox) → Keeps rank_of no_kept places [] → items_in rank_of no_kept places ≡ []
nothing_in places k = items_are rank_of no_kept places [] k ∙ take_all (length places) [] (omega arith)

all_of : {X : Type 0} (P : X → Type 0) → ((x : X) → P x) → (xs : List X) → AllByRecursion P xs
all_of P h [] = tt
all_of P h (x ∷ xs) = (h x, all_of P h xs)

-- six losses at most
pub box_loss_le : (m : Meaning) (b : List Range) → box_loss m b ≤ 60000
unfolding box_loss
box_loss_le m b =
    let f : ℕ → ℕ = λ i. loss_of m i (range_at b i) in
    let e = sum-map f (attributes m) in
    let l = sum_by_le f full_loss (attributes m) (all_of _ (λ i. loss_le m i (range_at b i)) (attributes m)) in
    omega (arith, length-range_with_len 0 (known_count m))

module _ (m : Meaning) where
  -- a kept box with its loss
  abbrev pub priced : Kept → KeptBox
  priced k = record { loss = box_loss m k.ranges; number = k.number; ranges = k.ranges }

  pub forget_priced : (ks : List Kept) → map kept_of (map priced ks) ≡ ks
  forget_priced [] = refl
  forget_priced (k ∷ ks) = ap (λ l. k ∷ l) (forget_priced ks)

  pub all_priced : (ks : List Kept) → AllByRecursion (Priced m) (map priced ks)
  all_priced [] = tt
  all_priced (k ∷ ks) = (refl, all_priced ks)

  is_priced : (b : KeptBox) → Priced m b → b ≡ priced (kept_of b)
  is_priced b h = ap (λ (x : ℕ). let c : KeptBox = record { loss = x; number = b.number; ranges = b.ranges } in c) h

  are_priced : (bs : List KeptBox) → AllByRecursion (Priced m) bs → bs ≡ map priced (map kept_of bs)
  are_priced [] h = refl
  are_priced (b ∷ bs) h = ap (λ l. b ∷ l) (are_priced bs h.1) ∙ ap (λ c. c ∷ map priced (map kept_of bs)) (is_priced b h.0)

  -- ranked by their losses, as the rules rank them
  pub offered_is : (n : ℕ) (bs : List KeptBox) (b : KeptBox) → AllByRecursion (Priced m) bs → Priced m b → leasts rank_of n (bs ++ b ∷ []) ≡ map priced (offered m n (map kept_of bs) (kept_of b))
  offered_is n bs b h p =
      ap (leasts rank_of n) (are_priced (bs ++ b ∷ []) (All-push (Priced m) bs b h p))
      ∙ sym (leasts_map rank_of priced n (map kept_of (bs ++ b ∷ [])))
      ∙ ap (λ l. map priced (leasts (λ k. rank_of (priced k)) n l)) (map_push kept_of bs b)
      ∙ ap (map priced) (leasts_of_keeper (kept_rank m) n (map kept_of bs ++ kept_of b ∷ []))
