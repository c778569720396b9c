-- `leasts` computes the n least: what `Least` says holds of it and of no other list. Assumes nothing.
use Rattle.std.proofs.Common.{◌≡◌, ℕ, zero, suc, ◌+◌, ◌<◌, ◌≤◌, min, Bool, true, false, cond, not, List, [], ◌∷◌, ◌++◌, map, length, take, drop, filter, sym, refl, ap, ◌∙◌, subst, ⊎_elim, arith, take-append-drop, length-take}
use Rattle.std.specs.List.{AllByRecursion}
use Rattle.std.specs.List.Sorted.{IsPermutation}
use Rattle.std.proofs.lemmas.List.{append-nil, take_all, take_at, take-take, take-map, length-append, map-append, nil_from_length}
use Rattle.std.proofs.lemmas.List.Elements.{filter-append}
use Rattle.std.proofs.ByRecursion.{All-take, All-drop, All-weaker, all_shuffled}
use Rattle.std.proofs.lemmas.Bool.{cases_lt}
use Rattle.std.proofs.lemmas.List.Sorted.{length_permutation}
use Rattle.keeper.specs.declared.Rank.{Rank}
use Rattle.keeper.specs.Ranks.{lower}
use Rattle.keeper.specs.Least.{of_rank, NoneLower, InOrder, Least}
use Rattle.keeper.specs.Leasts.{among, in_order, leasts, beyond, Computes}
use Rattle.keeper.proofs.Sorts.{in_order_append, in_order_in_order, of_rank_in_order, only_order}
use Rattle.keeper.proofs.Shuffles.{shuffled_in_order}

module _ {X : Type 0} (rank : X → Rank) where
  pub length_in_order : (xs : List X) → length (in_order rank xs) ≡ length xs
  length_in_order xs = length_permutation xs (in_order rank xs) (shuffled_in_order rank xs)

  pub length_leasts : (n : ℕ) (xs : List X) → length (leasts rank n xs) ≡ min n (length xs)
  length_leasts n xs = length-take n (in_order rank xs) ∙ ap (min n) (length_in_order xs)

  pub all_leasts : (P : X → Type 0) (n : ℕ) (xs : List X) → AllByRecursion P xs → AllByRecursion P (leasts rank n xs)
  all_leasts P n xs a = All-take P n (in_order rank xs) (all_shuffled P xs (in_order rank xs) (shuffled_in_order rank xs) a)

  in_order_take : (n : ℕ) (xs : List X) → InOrder rank xs → InOrder rank (take n xs)
  in_order_take zero xs h = tt
  in_order_take (suc n) [] h = tt
  in_order_take (suc n) (x ∷ xs) h = (All-take _ n xs h.0, in_order_take n xs h.1)

  in_order_behind : (n : ℕ) (xs : List X) → InOrder rank xs → AllByRecursion (λ x. NoneLower rank x (drop n xs)) (take n xs)
  in_order_behind zero xs h = tt
  in_order_behind (suc n) [] h = tt
  in_order_behind (suc n) (x ∷ xs) h = (All-drop _ n xs h.0, in_order_behind n xs h.1)

  pub least_leasts : (n : ℕ) (xs : List X) → Least rank n xs (leasts rank n xs) (beyond rank n xs)
  least_leasts n xs =
      let s = in_order rank xs in
      let whole : take n s ++ drop n s ≡ s = take-append-drop n s in
      record {
        by_rank = in_order_take n s (in_order_in_order rank xs);
        as_many = length_leasts n xs;
        of_given = subst (IsPermutation xs) (sym whole) (shuffled_in_order rank xs);
        no_higher = in_order_behind n s (in_order_in_order rank xs);
        earlier = λ r. sym (of_rank_in_order rank r xs) ∙ ap (of_rank rank r) (sym whole) ∙ filter-append _ (take n s) (drop n s);
      }

  -- what is in order stays as it is
  pub in_order_same : (xs : List X) → InOrder rank xs → in_order rank xs ≡ xs
  in_order_same xs h = only_order rank (in_order rank xs) xs (in_order_in_order rank xs) h (λ r. of_rank_in_order rank r xs)

  pub leasts_leasts : (n : ℕ) (xs : List X) → leasts rank n (leasts rank n xs) ≡ leasts rank n xs
  leasts_leasts n xs = ap (take n) (in_order_same (leasts rank n xs) (least_leasts n xs).by_rank) ∙ take-take n n (in_order rank xs) (omega arith)

  front_fits : (n m : ℕ) (a b : List X) → length a ≡ min n m → length a + length b ≡ m → take n (a ++ b) ≡ a
  front_fits n m a b k e =
      ⊎_elim
      (λ (l : m < n).
      let none : b ≡ [] = nil_from_length b (omega arith) in
      ap (λ t. take n (a ++ t)) none ∙ ap (take n) (append-nil a) ∙ take_all n a (omega arith))
      (λ (l : n ≤ m). take_at a b n (omega arith)) (cases_lt m n)

  pub only_leasts : (n : ℕ) (xs least away : List X) → Least rank n xs least away → least ≡ leasts rank n xs
  only_leasts n xs least away h =
      let behind = in_order rank away in
      let sorted : least ++ behind ≡ in_order rank xs = only_order rank (least ++ behind) (in_order rank xs)
      (in_order_append rank least behind h.by_rank (in_order_in_order rank away) (All-weaker _ _ (λ x a. all_shuffled _ away behind (shuffled_in_order rank away) a) least h.no_higher))
      (in_order_in_order rank xs)
      (λ r. filter-append _ least behind ∙ ap (λ l. of_rank rank r least ++ l) (of_rank_in_order rank r away) ∙ sym (h.earlier r) ∙ sym (of_rank_in_order rank r xs)) in
      let long : length least + length behind ≡ length xs = sym (length-append least behind) ∙ ap length sorted ∙ length_in_order xs in
      sym (front_fits n (length xs) least behind h.as_many long) ∙ ap (take n) sorted

  pub computes : (n : ℕ) (xs : List X) → Computes rank n xs
  computes n xs = record { is_least = least_leasts n xs; no_other = λ least away h. only_leasts n xs least away h }

-- of things that each stand for an item, those that stand for the n least
module _ {X Y : Type 0} (rank : X → Rank) (f : Y → X) where
  kept_by_map : (p : X → Bool) (ys : List Y) → map f (filter (λ y. p (f y)) ys) ≡ filter p (map f ys)
  kept_by_map p [] = refl
  kept_by_map p (y ∷ ys) = go (kept_by_map p ys) (p (f y))
    where
      go : map f (filter (λ y. p (f y)) ys) ≡ filter p (map f ys) → (t : Bool) → map f (cond t (y ∷ filter (λ y. p (f y)) ys) (filter (λ y. p (f y)) ys)) ≡ cond t (f y ∷ filter p (map f ys)) (filter p (map f ys))
      go ih true = ap (λ l. f y ∷ l) ih
      go ih false = ih

  in_order_map : (ys : List Y) → map f (in_order (λ y. rank (f y)) ys) ≡ in_order rank (map f ys)
  in_order_map [] = refl
  in_order_map (y ∷ ys) =
      let zs = in_order (λ y. rank (f y)) ys in
      let low : X → Bool = λ x. lower (rank x) (rank (f y)) in
      map-append f (filter (λ z. low (f z)) zs) (y ∷ filter (λ z. not (low (f z))) zs)
      ∙ ap (λ l. l ++ (f y ∷ map f (filter (λ z. not (low (f z))) zs))) (kept_by_map low zs)
      ∙ ap (λ l. filter low (map f zs) ++ (f y ∷ l)) (kept_by_map (λ x. not (low x)) zs)
      ∙ ap (λ l. among rank (f y) l) (in_order_map ys)

  pub leasts_map : (n : ℕ) (ys : List Y) → map f (leasts (λ y. rank (f y)) n ys) ≡ leasts rank n (map f ys)
  leasts_map n ys = sym (take-map f n (in_order (λ y. rank (f y)) ys)) ∙ ap (take n) (in_order_map ys)
