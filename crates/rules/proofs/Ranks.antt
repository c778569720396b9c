-- Lists in order of rank, and one item more among them.
use Rattle.std.proofs.Common.{◌≡◌, ℕ, zero, suc, ◌+◌, min, Bool, true, false, cond, not, List, [], ◌∷◌, ◌++◌, take, drop, fold, filter, sym, refl, ap, ◌∙◌, arith, length-take}
use Rattle.std.specs.List.{AllByRecursion}
use Rattle.std.proofs.lemmas.List.{take-take, append-nil}
use Rattle.std.proofs.ByRecursion.{All-append, All-weaker, all_kept_by, All-take, All-drop, kept_by_passes}
use Rattle.std.proofs.lemmas.Bool.{not-true, cond-false}
use Rattle.std.proofs.lemmas.Bool.Decides.{nat_tests}
use Rattle.domain.specs.Meaning.{Meaning}
use Rattle.rules.specs.Choosing.{total, Rank, lower, among, in_order, lowest_ranked}
use Rattle.rules.specs.States.{Kept, kept_rank, offered}
use Rattle.rules.specs.Laws.{NoneLower, ByRank, LowestRankedLaw, KeepingLaw}
use Rattle.rules.proofs.Totals.{total_in_order, length_in_order, true_false}

-- ---- ranks are in a total order

pub one_way : (a b : Rank) → lower a b ≡ true → lower b a ≡ false
one_way a b h = grind (arith, nat_tests)

pub chain : (a b c : Rank) → lower b a ≡ false → lower c b ≡ false → lower c a ≡ false
chain a b c h k = grind (arith, nat_tests)

pub lower_chain : (a b c : Rank) → lower a b ≡ true → lower b c ≡ true → lower a c ≡ true
lower_chain a b c h k = grind (arith, nat_tests)

module _ {X : Type 0} (rank : X → Rank) where
  -- ---- `in_order` is in order

  by_rank_append : (xs ys : List X) → ByRank rank xs → ByRank rank ys → AllByRecursion (λ x. NoneLower rank x ys) xs → ByRank rank (xs ++ ys)
  by_rank_append [] ys h k a = k
  by_rank_append (x ∷ xs) ys h k a = (All-append _ xs ys h.0 a.0, by_rank_append xs ys h.1 k a.1)

  pub by_rank_kept : (p : X → Bool) (xs : List X) → ByRank rank xs → ByRank rank (filter p xs)
  by_rank_kept p [] h = tt
  by_rank_kept p (x ∷ xs) h = go (by_rank_kept p xs h.1) (p x)
    where
      go : ByRank rank (filter p xs) → (t : Bool) → ByRank rank (cond t (x ∷ filter p xs) (filter p xs))
      go ih true = (all_kept_by p _ xs h.0, ih)
      go ih false = ih

  by_rank_among : (x : X) (ys : List X) → ByRank rank ys → ByRank rank (among rank x ys)
  by_rank_among x ys h =
      let low : X → Bool = λ y. lower (rank y) (rank x) in
      let high : X → Bool = λ y. not (lower (rank y) (rank x)) in
      let above : NoneLower rank x (filter high ys) = All-weaker _ _ (λ y e. not-true (low y) e) (filter high ys) (kept_by_passes high ys) in
      by_rank_append (filter low ys) (x ∷ filter high ys) (by_rank_kept low ys h) (above, by_rank_kept high ys h)
      (All-weaker (λ u. low u ≡ true) _ (λ u e. (one_way (rank u) (rank x) e, All-weaker _ _ (λ v f. chain (rank u) (rank x) (rank v) (one_way (rank u) (rank x) e) f) (filter high ys) above)) (filter low ys) (kept_by_passes low ys))

  pub by_rank_in_order : (xs : List X) → ByRank rank (in_order rank xs)
  by_rank_in_order [] = tt
  by_rank_in_order (x ∷ xs) = by_rank_among x (in_order rank xs) (by_rank_in_order xs)

  pub by_rank_take : (n : ℕ) (xs : List X) → ByRank rank xs → ByRank rank (take n xs)
  by_rank_take zero xs h = tt
  by_rank_take (suc n) [] h = tt
  by_rank_take (suc n) (x ∷ xs) h = (All-take _ n xs h.0, by_rank_take n xs h.1)

  -- the first n beside those beyond
  take_drop_lower : (n : ℕ) (xs : List X) → ByRank rank xs → AllByRecursion (λ x. NoneLower rank x (drop n xs)) (take n xs)
  take_drop_lower zero xs h = tt
  take_drop_lower (suc n) [] h = tt
  take_drop_lower (suc n) (x ∷ xs) h = (All-drop _ n xs h.0, take_drop_lower n xs h.1)

  take_drop_total : (f : X → ℕ) (n : ℕ) (xs : List X) → total f (take n xs) + total f (drop n xs) ≡ total f xs
  take_drop_total f zero xs = omega arith
  take_drop_total f (suc n) [] = omega arith
  take_drop_total f (suc n) (x ∷ xs) = omega (arith, take_drop_total f n xs)

  pub lowest_ranked_law : (n : ℕ) (xs : List X) → LowestRankedLaw rank n xs
  lowest_ranked_law n xs = record {
    by_rank = by_rank_take n (in_order rank xs) (by_rank_in_order xs);
    as_many = length-take n (in_order rank xs) ∙ ap (min n) (length_in_order rank xs);
    no_higher = take_drop_lower n (in_order rank xs) (by_rank_in_order xs);
    of_given = λ f. take_drop_total f n (in_order rank xs) ∙ total_in_order f rank xs;
  }

  -- ---- x ahead of its equals, and behind them

  abbrev front : X → List X → List X
  front x [] = x ∷ []
  front x (y ∷ ys) = cond (lower (rank y) (rank x)) (y ∷ front x ys) (x ∷ y ∷ ys)

  abbrev back : X → List X → List X
  back x [] = x ∷ []
  back x (y ∷ ys) = cond (lower (rank x) (rank y)) (x ∷ y ∷ ys) (y ∷ back x ys)

  kept_none : (p : X → Bool) (xs : List X) → AllByRecursion (λ x. p x ≡ false) xs → filter p xs ≡ []
  kept_none p [] h = refl
  kept_none p (x ∷ xs) h = cond-false (p x) _ _ h.0 ∙ kept_none p xs h.1

  kept_all : (p : X → Bool) (xs : List X) → AllByRecursion (λ x. p x ≡ false) xs → filter (λ x. not (p x)) xs ≡ xs
  kept_all p [] h = refl
  kept_all p (x ∷ xs) h = ap (λ t. cond (not t) (x ∷ filter (λ x. not (p x)) xs) (filter (λ x. not (p x)) xs)) h.0 ∙ ap (λ l. x ∷ l) (kept_all p xs h.1)

  among_front : (x : X) (ys : List X) → ByRank rank ys → among rank x ys ≡ front x ys
  among_front x [] h = refl
  among_front x (y ∷ ys) h = go (lower (rank y) (rank x)) refl (among_front x ys h.1)
    where
      low : X → Bool
      low z = lower (rank z) (rank x)

      go : (t : Bool) → lower (rank y) (rank x) ≡ t → among rank x ys ≡ front x ys
          → cond t (y ∷ filter (λ z. lower (rank z) (rank x)) ys) (filter (λ z. lower (rank z) (rank x)) ys) ++ x ∷ cond (not t) (y ∷ filter (λ z. not (lower (rank z) (rank x))) ys) (filter (λ z. not (lower (rank z) (rank x))) ys) ≡ cond t (y ∷ front x ys) (x ∷ y ∷ ys)
      go true e ih = ap (λ l. y ∷ l) ih
      go false e ih =
          let none : AllByRecursion (λ z. lower (rank z) (rank x) ≡ false) ys = All-weaker _ _ (λ z f. chain (rank x) (rank y) (rank z) e f) ys h.0 in
          ap (λ l. l ++ x ∷ y ∷ filter (λ z. not (lower (rank z) (rank x))) ys) (kept_none low ys none) ∙ ap (λ l. x ∷ y ∷ l) (kept_all low ys none)

  front_back : (x b : X) (ys : List X) → front x (back b ys) ≡ back b (front x ys)
  front_back x b [] = go (lower (rank b) (rank x))
    where
      go : (t : Bool) → cond t (b ∷ x ∷ []) (x ∷ b ∷ []) ≡ cond t (b ∷ x ∷ []) (x ∷ b ∷ [])
      go t = refl
  front_back x b (y ∷ ys) = go (lower (rank b) (rank y)) refl (lower (rank y) (rank x)) refl (lower (rank b) (rank x)) refl (front_back x b ys)
    where
      at : (s : Bool) → lower (rank b) (rank y) ≡ s → (zs : List X) → back b (y ∷ zs) ≡ cond s (b ∷ y ∷ zs) (y ∷ back b zs)
      at s e zs = ap (λ t. cond t (b ∷ y ∷ zs) (y ∷ back b zs)) e

      ahead : (t : Bool) → lower (rank y) (rank x) ≡ t → (zs : List X) → front x (y ∷ zs) ≡ cond t (y ∷ front x zs) (x ∷ y ∷ zs)
      ahead t e zs = ap (λ u. cond u (y ∷ front x zs) (x ∷ y ∷ zs)) e

      new : (u : Bool) → lower (rank b) (rank x) ≡ u → (zs : List X) → front x (b ∷ zs) ≡ cond u (b ∷ front x zs) (x ∷ b ∷ zs)
      new u e zs = ap (λ t. cond t (b ∷ front x zs) (x ∷ b ∷ zs)) e

      old : (u : Bool) → lower (rank b) (rank x) ≡ u → (zs : List X) → back b (x ∷ zs) ≡ cond u (b ∷ x ∷ zs) (x ∷ back b zs)
      old u e zs = ap (λ t. cond t (b ∷ x ∷ zs) (x ∷ back b zs)) e

      go : (s : Bool) → lower (rank b) (rank y) ≡ s → (t : Bool) → lower (rank y) (rank x) ≡ t → (u : Bool) → lower (rank b) (rank x) ≡ u → front x (back b ys) ≡ back b (front x ys)
          → front x (cond s (b ∷ y ∷ ys) (y ∷ back b ys)) ≡ back b (cond t (y ∷ front x ys) (x ∷ y ∷ ys))
      go true e true f true k ih = new true k (y ∷ ys) ∙ ap (λ l. b ∷ l) (ahead true f ys) ∙ sym (at true e (front x ys))
      go true e true f false k ih = true_false (lower_chain (rank b) (rank y) (rank x) e f) k
      go true e false f true k ih = new true k (y ∷ ys) ∙ ap (λ l. b ∷ l) (ahead false f ys) ∙ sym (old true k (y ∷ ys))
      go true e false f false k ih = new false k (y ∷ ys) ∙ ap (λ l. x ∷ l) (sym (at true e ys)) ∙ sym (old false k (y ∷ ys))
      go false e true f u k ih = ahead true f (back b ys) ∙ ap (λ l. y ∷ l) ih ∙ sym (at false e (front x ys))
      go false e false f true k ih = true_false k (chain (rank x) (rank y) (rank b) f e)
      go false e false f false k ih = ahead false f (back b ys) ∙ ap (λ l. x ∷ l) (sym (at false e ys)) ∙ sym (old false k (y ∷ ys))

  in_order_push : (b : X) (xs : List X) → in_order rank (xs ++ b ∷ []) ≡ back b (in_order rank xs)
  in_order_push b [] = refl
  in_order_push b (x ∷ xs) =
      among_front x (in_order rank (xs ++ b ∷ [])) (by_rank_in_order (xs ++ b ∷ []))
      ∙ ap (front x) (in_order_push b xs) ∙ front_back x b (in_order rank xs) ∙ ap (back b) (sym (among_front x (in_order rank xs) (by_rank_in_order xs)))

  in_order_same : (xs : List X) → ByRank rank xs → in_order rank xs ≡ xs
  in_order_same [] h = refl
  in_order_same (x ∷ xs) h = ap (among rank x) (in_order_same xs h.1) ∙ ap (λ l. l ++ x ∷ filter (λ y. not (lower (rank y) (rank x))) xs) (kept_none _ xs h.0) ∙ ap (λ l. x ∷ l) (kept_all _ xs h.0)

  take_cons : (m : ℕ) (y : X) (ys : List X) → take m (y ∷ ys) ≡ take m (y ∷ take m ys)
  take_cons zero y ys = refl
  take_cons (suc k) y ys = ap (λ l. y ∷ l) (sym (take-take k (suc k) ys (omega arith)))

  -- what lies beyond the n first has no part in it
  take_back : (n : ℕ) (b : X) (ys : List X) → take n (back b ys) ≡ take n (back b (take n ys))
  take_back zero b ys = refl
  take_back (suc m) b [] = refl
  take_back (suc m) b (y ∷ ys) = go (take_back m b ys) (lower (rank b) (rank y))
    where
      go : take m (back b ys) ≡ take m (back b (take m ys)) → (t : Bool) → take (suc m) (cond t (b ∷ y ∷ ys) (y ∷ back b ys)) ≡ take (suc m) (cond t (b ∷ y ∷ take m ys) (y ∷ back b (take m ys)))
      go ih true = ap (λ l. b ∷ l) (take_cons m y ys)
      go ih false = ap (λ l. y ∷ l) ih

  -- one more among the n of least rank
  lowest_push : (n : ℕ) (b : X) (xs : List X) → lowest_ranked rank n (lowest_ranked rank n xs ++ b ∷ []) ≡ lowest_ranked rank n (xs ++ b ∷ [])
  lowest_push n b xs =
      let ys = in_order rank xs in
      ap (take n) (in_order_push b (take n ys)) ∙ ap (λ l. take n (back b l)) (in_order_same (take n ys) (by_rank_take n ys (by_rank_in_order xs)))
      ∙ sym (take_back n b ys) ∙ ap (take n) (sym (in_order_push b xs))

  pub keeping : (n : ℕ) (bs xs : List X) → fold (λ ks b. lowest_ranked rank n (ks ++ b ∷ [])) (lowest_ranked rank n xs) bs ≡ lowest_ranked rank n (xs ++ bs)
  keeping n [] xs = ap (lowest_ranked rank n) (sym (append-nil xs))
  keeping n (b ∷ bs) xs =
      ap (λ ks. fold (λ ks b. lowest_ranked rank n (ks ++ b ∷ [])) ks bs) (lowest_push n b xs) ∙ keeping n bs (xs ++ b ∷ []) ∙ ap (lowest_ranked rank n) (assoc xs)
    where
      assoc : (ys : List X) → (ys ++ b ∷ []) ++ bs ≡ ys ++ b ∷ bs
      assoc [] = refl
      assoc (y ∷ ys) = ap (λ l. y ∷ l) (assoc ys)

pub keeping_law : (m : Meaning) (n : ℕ) (bs : List Kept) → KeepingLaw m n bs
keeping_law m n bs = ap (λ ks. fold (offered m n) ks bs) (none n) ∙ keeping (kept_rank m) n bs []
  where
    none : (n : ℕ) → ◌≡◌ {A = List Kept} [] (take n [])
    none zero = refl
    none (suc n) = refl
