-- What it is to be in order: `in_order` has it, and no other list does. Assumes nothing.
use Rattle.std.proofs.Common.{◌≡◌, Bool, true, false, cond, not, List, [], ◌∷◌, ◌++◌, filter, sym, refl, ap, ◌∙◌}
use Rattle.std.specs.List.{AllByRecursion}
use Rattle.std.proofs.lemmas.List.{append-nil}
use Rattle.std.proofs.lemmas.List.Elements.{filter-append}
use Rattle.std.proofs.ByRecursion.{All-append, All-weaker, all_kept_by, kept_by_passes}
use Rattle.std.proofs.lemmas.Bool.{not-true, not_from_true, not_from_false}
use Rattle.keeper.specs.declared.Rank.{Rank}
use Rattle.keeper.specs.Ranks.{lower, same}
use Rattle.keeper.specs.Least.{of_rank, NoneLower, InOrder}
use Rattle.keeper.specs.Leasts.{among, in_order}
use Rattle.keeper.proofs.Orders.{one_way, chain, lower_chain, same_itself, not_same_back, same_from, lower_at_same}
use Rattle.keeper.proofs.Filters.{kept_by_none, kept_by_yes, kept_by_no, kept_by_within, kept_by_apart}

module _ {X : Type 0} (rank : X → Rank) where
  pub in_order_append : (xs ys : List X) → InOrder rank xs → InOrder rank ys → AllByRecursion (λ x. NoneLower rank x ys) xs → InOrder rank (xs ++ ys)
  in_order_append [] ys h k a = k
  in_order_append (x ∷ xs) ys h k a = (All-append _ xs ys h.0 a.0, in_order_append xs ys h.1 k a.1)

  pub in_order_kept_by : (p : X → Bool) (xs : List X) → InOrder rank xs → InOrder rank (filter p xs)
  in_order_kept_by p [] h = tt
  in_order_kept_by p (x ∷ xs) h = go (in_order_kept_by p xs h.1) (p x)
    where
      go : InOrder rank (filter p xs) → (t : Bool) → InOrder rank (cond t (x ∷ filter p xs) (filter p xs))
      go ih true = (all_kept_by p _ xs h.0, ih)
      go ih false = ih

  -- ---- `in_order` is in order

  in_order_among : (x : X) (ys : List X) → InOrder rank ys → InOrder rank (among rank x ys)
  in_order_among x ys h =
      let low : X → Bool = λ y. lower (rank y) (rank x) in
      let high : X → Bool = λ y. not (lower (rank y) (rank x)) in
      let above : NoneLower rank x (filter high ys) = All-weaker _ _ (λ y e. not-true (low y) e) (filter high ys) (kept_by_passes high ys) in
      in_order_append (filter low ys) (x ∷ filter high ys) (in_order_kept_by low ys h) (above, in_order_kept_by high ys h)
      (All-weaker (λ u. low u ≡ true) _ (λ u e. (one_way (rank u) (rank x) e, All-weaker _ _ (λ v f. chain (rank u) (rank x) (rank v) (one_way (rank u) (rank x) e) f) (filter high ys) above)) (filter low ys) (kept_by_passes low ys))

  pub in_order_in_order : (xs : List X) → InOrder rank (in_order rank xs)
  in_order_in_order [] = tt
  in_order_in_order (x ∷ xs) = in_order_among x (in_order rank xs) (in_order_in_order xs)

  -- ---- of each rank it has the same items, in the same order

  of_rank_among : (r : Rank) (x : X) (ys : List X) → of_rank rank r (among rank x ys) ≡ of_rank rank r (x ∷ ys)
  of_rank_among r x ys =
      filter-append (λ y. same (rank y) r) (filter (λ y. lower (rank y) (rank x)) ys) (x ∷ filter (λ y. not (lower (rank y) (rank x))) ys)
      ∙ go (lower r (rank x)) refl
    where
      low : List X
      low = filter (λ y. lower (rank y) (rank x)) ys

      high : List X
      high = filter (λ y. not (lower (rank y) (rank x))) ys

      go : (t : Bool) → lower r (rank x) ≡ t → of_rank rank r low ++ of_rank rank r (x ∷ high) ≡ of_rank rank r (x ∷ ys)
      go true f =
          let as_r : (y : X) → same (rank y) r ≡ true → lower (rank y) (rank x) ≡ true = λ y e. lower_at_same (rank y) r (rank x) e ∙ f in
          let away : same (rank x) r ≡ false = not_same_back r (rank x) f in
          ap (λ l. l ++ of_rank rank r (x ∷ high)) (kept_by_within _ _ as_r ys)
          ∙ ap (λ l. of_rank rank r ys ++ l) (kept_by_no _ x high away ∙ kept_by_apart _ _ (λ y e. not_from_true _ (as_r y e)) ys)
          ∙ append-nil (of_rank rank r ys)
          ∙ sym (kept_by_no _ x ys away)
      go false f =
          let as_r : (y : X) → same (rank y) r ≡ true → lower (rank y) (rank x) ≡ false = λ y e. lower_at_same (rank y) r (rank x) e ∙ f in
          ap (λ l. l ++ of_rank rank r (x ∷ high)) (kept_by_apart _ _ as_r ys)
          ∙ ap (λ l. cond (same (rank x) r) (x ∷ l) l) (kept_by_within _ _ (λ y e. not_from_false _ (as_r y e)) ys)

  pub of_rank_in_order : (r : Rank) (xs : List X) → of_rank rank r (in_order rank xs) ≡ of_rank rank r xs
  of_rank_in_order r [] = refl
  of_rank_in_order r (x ∷ xs) = of_rank_among r x (in_order rank xs) ∙ ap (λ l. cond (same (rank x) r) (x ∷ l) l) (of_rank_in_order r xs)

  -- ---- a list in order is known by what it has of each rank

  none_of_rank : (x : X) (y : X) (ys : List X) → lower (rank x) (rank y) ≡ true → NoneLower rank y ys → of_rank rank (rank x) (y ∷ ys) ≡ []
  none_of_rank x y ys l h =
      kept_by_none (λ z. same (rank z) (rank x)) (y ∷ ys)
      (not_same_back (rank x) (rank y) l, All-weaker _ _ (λ z f. not_same_back (rank x) (rank z) (lower_chain (rank x) (rank y) (rank z) l f)) ys h)

  no_lower_first : (x y : X) (xs ys : List X) → NoneLower rank y ys → of_rank rank (rank x) (x ∷ xs) ≡ of_rank rank (rank x) (y ∷ ys) → lower (rank x) (rank y) ≡ false
  no_lower_first x y xs ys h e = go (lower (rank x) (rank y)) refl
    where
      go : (t : Bool) → lower (rank x) (rank y) ≡ t → t ≡ false
      go false l = refl
      go true l =
          let a : of_rank rank (rank x) (x ∷ xs) ≡ x ∷ of_rank rank (rank x) xs = kept_by_yes (λ z. same (rank z) (rank x)) x xs (same_itself (rank x)) in
          let b : of_rank rank (rank x) (y ∷ ys) ≡ [] = none_of_rank x y ys l h in
          cc

  pub only_order : (xs ys : List X) → InOrder rank xs → InOrder rank ys → ((r : Rank) → of_rank rank r xs ≡ of_rank rank r ys) → xs ≡ ys
  only_order [] [] h k e = refl
  only_order [] (y ∷ ys) h k e =
      let a : of_rank rank (rank y) (y ∷ ys) ≡ y ∷ of_rank rank (rank y) ys = kept_by_yes (λ z. same (rank z) (rank y)) y ys (same_itself (rank y)) in
      let b = e (rank y) in
      cc
  only_order (x ∷ xs) [] h k e =
      let a : of_rank rank (rank x) (x ∷ xs) ≡ x ∷ of_rank rank (rank x) xs = kept_by_yes (λ z. same (rank z) (rank x)) x xs (same_itself (rank x)) in
      let b = e (rank x) in
      cc
  only_order (x ∷ xs) (y ∷ ys) h k e = let ih = only_order xs ys h.1 k.1 (λ r. rest r (same (rank x) r) refl) in let f = first in cc
    where
      up : lower (rank x) (rank y) ≡ false
      up = no_lower_first x y xs ys k.0 (e (rank x))

      down : lower (rank y) (rank x) ≡ false
      down = no_lower_first y x ys xs h.0 (sym (e (rank y)))

      first : x ≡ y
      first =
          let a : of_rank rank (rank x) (x ∷ xs) ≡ x ∷ of_rank rank (rank x) xs = kept_by_yes (λ z. same (rank z) (rank x)) x xs (same_itself (rank x)) in
          let b : of_rank rank (rank x) (y ∷ ys) ≡ y ∷ of_rank rank (rank x) ys = kept_by_yes (λ z. same (rank z) (rank x)) y ys (same_from (rank y) (rank x) down up) in
          let j = e (rank x) in cc

      rest : (r : Rank) (t : Bool) → same (rank x) r ≡ t → of_rank rank r xs ≡ of_rank rank r ys
      rest r true s =
          let a : of_rank rank r (x ∷ xs) ≡ x ∷ of_rank rank r xs = kept_by_yes (λ z. same (rank z) r) x xs s in
          let b : of_rank rank r (y ∷ ys) ≡ y ∷ of_rank rank r ys = kept_by_yes (λ z. same (rank z) r) y ys (ap (λ z. same (rank z) r) (sym first) ∙ s) in
          let j = e r in cc
      rest r false s =
          sym (kept_by_no (λ z. same (rank z) r) x xs s) ∙ e r ∙ kept_by_no (λ z. same (rank z) r) y ys (ap (λ z. same (rank z) r) (sym first) ∙ s)
