-- One item put into a list that is in order, behind its equals. Assumes nothing.
use Rattle.std.proofs.Common.{◌≡◌, ℕ, zero, suc, Bool, true, false, cond, List, [], ◌∷◌, ◌++◌, length, take, replicate, sym, refl, ap, ◌∙◌, arith}
use Rattle.std.specs.List.{AllByRecursion}
use Rattle.std.proofs.lemmas.List.{append-nil, take-take}
use Rattle.std.proofs.lemmas.List.Elements.{filter-append}
use Rattle.std.proofs.ByRecursion.{All-weaker}
use Rattle.keeper.specs.declared.Rank.{Rank}
use Rattle.keeper.specs.Ranks.{lower, same}
use Rattle.keeper.specs.Least.{of_rank, NoneLower, InOrder}
use Rattle.keeper.specs.Leasts.{in_order, leasts}
use Rattle.keeper.proofs.Orders.{one_way, lower_chain, not_same_back, lower_at_same}
use Rattle.keeper.proofs.Filters.{kept_by_none}
use Rattle.keeper.proofs.Sorts.{in_order_in_order, of_rank_in_order, only_order}

module _ {X : Type 0} (rank : X → Rank) where
  -- x ahead of the first of higher rank
  abbrev pub put : X → List X → List X
  put x [] = x ∷ []
  put x (y ∷ ys) = cond (lower (rank x) (rank y)) (x ∷ y ∷ ys) (y ∷ put x ys)

  pub all_put : (P : X → Type 0) (x : X) (ys : List X) → P x → AllByRecursion P ys → AllByRecursion P (put x ys)
  all_put P x [] h a = (h, tt)
  all_put P x (y ∷ ys) h a = go (all_put P x ys h a.1) (lower (rank x) (rank y))
    where
      go : AllByRecursion P (put x ys) → (t : Bool) → AllByRecursion P (cond t (x ∷ y ∷ ys) (y ∷ put x ys))
      go ih true = (h, a)
      go ih false = (a.0, ih)

  pub length_put : (x : X) (ys : List X) → length (put x ys) ≡ suc (length ys)
  length_put x [] = refl
  length_put x (y ∷ ys) = go (length_put x ys) (lower (rank x) (rank y))
    where
      go : length (put x ys) ≡ suc (length ys) → (t : Bool) → length (cond t (x ∷ y ∷ ys) (y ∷ put x ys)) ≡ suc (suc (length ys))
      go ih true = refl
      go ih false = ap suc ih

  -- what stands behind something higher than x
  higher : (x y : X) (ys : List X) → lower (rank x) (rank y) ≡ true → NoneLower rank y ys → AllByRecursion (λ z. lower (rank x) (rank z) ≡ true) (y ∷ ys)
  higher x y ys l h = (l, All-weaker _ _ (λ z f. lower_chain (rank x) (rank y) (rank z) l f) ys h)

  in_order_put : (x : X) (ys : List X) → InOrder rank ys → InOrder rank (put x ys)
  in_order_put x [] h = (tt, tt)
  in_order_put x (y ∷ ys) h = go (in_order_put x ys h.1) (lower (rank x) (rank y)) refl
    where
      go : InOrder rank (put x ys) → (t : Bool) → lower (rank x) (rank y) ≡ t → InOrder rank (cond t (x ∷ y ∷ ys) (y ∷ put x ys))
      go ih true l = (All-weaker (λ z. lower (rank x) (rank z) ≡ true) _ (λ z f. one_way (rank x) (rank z) f) (y ∷ ys) (higher x y ys l h.0), h)
      go ih false l = (all_put _ x ys l h.0, ih)

  of_rank_put : (r : Rank) (x : X) (ys : List X) → InOrder rank ys → of_rank rank r (put x ys) ≡ of_rank rank r ys ++ of_rank rank r (x ∷ [])
  of_rank_put r x [] h = refl
  of_rank_put r x (y ∷ ys) h = go (of_rank_put r x ys h.1) (lower (rank x) (rank y)) refl
    where
      ahead : AllByRecursion (λ z. lower (rank x) (rank z) ≡ true) (y ∷ ys) → (s : Bool) → same (rank x) r ≡ s → cond s (x ∷ of_rank rank r (y ∷ ys)) (of_rank rank r (y ∷ ys)) ≡ of_rank rank r (y ∷ ys) ++ cond s (x ∷ []) []
      ahead a true e =
          let none : of_rank rank r (y ∷ ys) ≡ [] = kept_by_none (λ z. same (rank z) r) (y ∷ ys) (All-weaker _ _ (λ z f. not_same_back r (rank z) (sym (lower_at_same (rank x) r (rank z) e) ∙ f)) (y ∷ ys) a) in
          ap (λ l. x ∷ l) none ∙ ap (λ l. l ++ x ∷ []) (sym none)
      ahead a false e = sym (append-nil (of_rank rank r (y ∷ ys)))

      behind : of_rank rank r (put x ys) ≡ of_rank rank r ys ++ of_rank rank r (x ∷ []) → (s : Bool) → cond s (y ∷ of_rank rank r (put x ys)) (of_rank rank r (put x ys)) ≡ cond s (y ∷ of_rank rank r ys) (of_rank rank r ys) ++ of_rank rank r (x ∷ [])
      behind ih true = ap (λ l. y ∷ l) ih
      behind ih false = ih

      go : of_rank rank r (put x ys) ≡ of_rank rank r ys ++ of_rank rank r (x ∷ []) → (t : Bool) → lower (rank x) (rank y) ≡ t → of_rank rank r (cond t (x ∷ y ∷ ys) (y ∷ put x ys)) ≡ of_rank rank r (y ∷ ys) ++ of_rank rank r (x ∷ [])
      go ih true l = ahead (higher x y ys l h.0) (same (rank x) r) refl
      go ih false l = behind ih (same (rank y) r)

  -- the item behind the others, in order
  pub put_in_order : (x : X) (xs : List X) → put x (in_order rank xs) ≡ in_order rank (xs ++ x ∷ [])
  put_in_order x xs =
      only_order rank _ _ (in_order_put x (in_order rank xs) (in_order_in_order rank xs)) (in_order_in_order rank (xs ++ x ∷ []))
      (λ r. of_rank_put r x (in_order rank xs) (in_order_in_order rank xs) ∙ ap (λ l. l ++ of_rank rank r (x ∷ [])) (of_rank_in_order rank r xs) ∙ sym (filter-append _ xs (x ∷ [])) ∙ sym (of_rank_in_order rank r (xs ++ x ∷ [])))

  take_cons : (m : ℕ) (y : X) (ys : List X) → take m (y ∷ ys) ≡ take m (y ∷ take m ys)
  take_cons zero y ys = refl
  take_cons (suc k) y ys = ap (λ l. y ∷ l) (sym (take-take k (suc k) ys (omega arith)))

  -- what lies beyond the n first has no part in it
  pub take_put : (n : ℕ) (x : X) (l : List X) → take n (put x l) ≡ take n (put x (take n l))
  take_put zero x [] = refl
  take_put zero x (y ∷ ys) = go (lower (rank x) (rank y))
    where
      go : (t : Bool) → take zero (cond t (x ∷ y ∷ ys) (y ∷ put x ys)) ≡ take zero (x ∷ [])
      go true = refl
      go false = refl
  take_put (suc m) x [] = refl
  take_put (suc m) x (y ∷ ys) = go (take_put m x ys) (lower (rank x) (rank y))
    where
      go : take m (put x ys) ≡ take m (put x (take m ys)) → (t : Bool) → take (suc m) (cond t (x ∷ y ∷ ys) (y ∷ put x ys)) ≡ take (suc m) (cond t (x ∷ y ∷ take m ys) (y ∷ put x (take m ys)))
      go ih true = ap (λ l. x ∷ l) (take_cons m y ys)
      go ih false = ap (λ l. y ∷ l) ih

  pub leasts_push : (n : ℕ) (x : X) (xs : List X) → leasts rank n (xs ++ x ∷ []) ≡ take n (put x (leasts rank n xs))
  leasts_push n x xs = ap (take n) (sym (put_in_order x xs)) ∙ take_put n x (in_order rank xs)

  -- free places behind stay behind
  pub put_before_marks : (empty x : X) → lower (rank x) (rank empty) ≡ true → (m : ℕ) (ys : List X) → put x (ys ++ replicate m empty) ≡ put x ys ++ replicate m empty
  put_before_marks empty x l zero [] = refl
  put_before_marks empty x l (suc k) [] = ap (λ t. cond t (x ∷ empty ∷ replicate k empty) (empty ∷ put x (replicate k empty))) l
  put_before_marks empty x l m (y ∷ ys) = go (put_before_marks empty x l m ys) (lower (rank x) (rank y))
    where
      go : put x (ys ++ replicate m empty) ≡ put x ys ++ replicate m empty → (t : Bool) → cond t (x ∷ y ∷ ys ++ replicate m empty) (y ∷ put x (ys ++ replicate m empty)) ≡ cond t (x ∷ y ∷ ys) (y ∷ put x ys) ++ replicate m empty
      go ih true = refl
      go ih false = ap (λ r. y ∷ r) ih
