-- A keeper's places, as one list, and what an offer and a reading give. Assumes nothing.
use Rattle.std.proofs.Common.{◌≡◌, ℕ, zero, suc, ◌+◌, ◌-◌, ◌≤◌, min, Bool, true, false, cond, List, [], ◌∷◌, ◌++◌, length, take, drop, replicate, filter, sym, refl, ap, ◌∙◌, subst, arith}
use Rattle.std.specs.Bool.{then_some}
use Rattle.std.specs.Option.{option_to_list}
use Rattle.std.specs.List.{prefix_len, AllByRecursion}
use Rattle.std.proofs.lemmas.List.{append-nil, append_assoc, take_all, take_at, drop_at, drop_all, length_push, length-replicate, replicate_more, same_from_push}
use Rattle.std.proofs.ByRecursion.{All-push, all-has, has_push}
use Rattle.keeper.specs.declared.Rank.{Rank}
use Rattle.keeper.specs.Ranks.{lower}
use Rattle.keeper.specs.Least.{InOrder}
use Rattle.keeper.specs.Leasts.{in_order, leasts, beyond}
use Rattle.keeper.specs.Keeping.{Keeps, count_in, items_in, Takes, Reads}
use Rattle.keeper.proofs.Orders.{not_lower_itself}
use Rattle.keeper.proofs.Sorts.{in_order_kept_by}
use Rattle.keeper.proofs.Leasts.{length_leasts, all_leasts, least_leasts, only_leasts, in_order_same, leasts_leasts}
use Rattle.keeper.proofs.Puts.{put, all_put, length_put, put_in_order, leasts_push, put_before_marks}

module _ {X : Type 0} (rank : X → Rank) (empty : X) where
  -- the n places of a keeper of the given items
  abbrev pub kept : ℕ → List X → List X
  kept n given = leasts rank n given ++ replicate (n - length given) empty

  pub keeps_from : (places given : List X) → AllByRecursion (λ x. lower (rank x) (rank empty) ≡ true) given → places ≡ kept (length places) given → Keeps rank empty places given
  keeps_from places given a e =
      let n = length places in
      let m : n - length given ≡ n - length (leasts rank n given) = omega (arith, length_leasts rank n given) in
      record {
        held = leasts rank n given;
        turned_away = beyond rank n given;
        least = least_leasts rank n given;
        stands = e ∙ ap (λ k. leasts rank n given ++ replicate k empty) m;
        above = a;
      }

  pub keeps_nothing : (n : ℕ) (places : List X) → places ≡ replicate n empty → Keeps rank empty places []
  keeps_nothing n places e = keeps_from places [] tt (e ∙ ap (λ m. replicate m empty) (omega (arith, ap length e, length-replicate n empty)) ∙ ap (λ l. l ++ replicate (length places - 0) empty) (sym (take_all (length places) [] (omega arith))))

  pub kept_from : (places given : List X) → Keeps rank empty places given → places ≡ kept (length places) given
  kept_from places given k =
      let n = length places in
      let held : k.held ≡ leasts rank n given = only_leasts rank n given k.held k.turned_away k.least in
      let m : n - length k.held ≡ n - length given = omega (arith, k.least.as_many) in
      k.stands ∙ ap (λ l. l ++ replicate (n - length k.held) empty) held ∙ ap (λ j. leasts rank n given ++ replicate j empty) m

  -- ---- reading

  leading_marks : (p : X → Bool) (m : ℕ) → p empty ≡ false → prefix_len p (replicate m empty) ≡ 0
  leading_marks p zero e = refl
  leading_marks p (suc m) e = ap (λ t. cond t (1 + prefix_len p (replicate m empty)) 0) e

  leading_held : (p : X → Bool) (xs ys : List X) → AllByRecursion (λ x. p x ≡ true) xs → prefix_len p ys ≡ 0 → prefix_len p (xs ++ ys) ≡ length xs
  leading_held p [] ys a e = e
  leading_held p (x ∷ xs) ys a e = ap (λ t. cond t (1 + prefix_len p (xs ++ ys)) 0) a.0 ∙ omega (arith, leading_held p xs ys a.1 e)

  pub count_is : (places given : List X) → Keeps rank empty places given → count_in rank empty places ≡ length (leasts rank (length places) given)
  count_is places given k =
      let h = leasts rank (length places) given in
      let m = length places - length given in
      let p : X → Bool = λ x. lower (rank x) (rank empty) in
      ap (prefix_len p) (kept_from places given k)
      ∙ leading_held p h (replicate m empty) (all_leasts rank _ (length places) given k.above) (leading_marks p m (not_lower_itself (rank empty)))

  pub items_are : (places given : List X) → Keeps rank empty places given → items_in rank empty places ≡ leasts rank (length places) given
  items_are places given k =
      let h = leasts rank (length places) given in
      ap (λ m. take m places) (count_is places given k) ∙ ap (take (length h)) (kept_from places given k) ∙ take_at h _ (length h) refl

  pub held_is : (places given : List X) → Keeps rank empty places given → count_in rank empty places ≡ min (length places) (length given)
  held_is places given k = count_is places given k ∙ length_leasts rank (length places) given

  pub forgets : (places given : List X) → Keeps rank empty places given → Keeps rank empty places (items_in rank empty places)
  forgets places given k =
      let n = length places in
      let h = leasts rank n given in
      let m : n - length h ≡ n - length given = omega (arith, length_leasts rank n given) in
      let again : places ≡ kept n h = kept_from places given k ∙ ap (λ l. l ++ replicate (n - length given) empty) (sym (leasts_leasts rank n given)) ∙ ap (λ j. leasts rank n h ++ replicate j empty) (sym m) in
      subst (Keeps rank empty places) (sym (items_are places given k)) (keeps_from places h (all_leasts rank _ n given k.above) again)

  reads_from : (places given : List X) → Keeps rank empty places given → Reads rank empty given places (items_in rank empty places)
  reads_from places given k =
      let n = length places in
      let sorted : InOrder rank (items_in rank empty places) = subst (InOrder rank) (sym (items_are places given k)) (least_leasts rank n given).by_rank in
      record {
        least = items_are places given k;
        forgets = forgets places given k;
        first = λ p. ap (take 1) (sym (in_order_same rank (filter p (items_in rank empty places)) (in_order_kept_by rank p (items_in rank empty places) sorted)));
      }

  pub reads_at : (places given : List X) (n : ℕ) → n ≡ count_in rank empty places → Keeps rank empty places given → Reads rank empty given places (take n places)
  reads_at places given n e k = subst (λ m. Reads rank empty given places (take m places)) (sym e) (reads_from places given k)

  -- ---- offering

  -- the item and what is held, in order
  with_item : (places given : List X) (item : X) → Keeps rank empty places given → in_order rank (items_in rank empty places ++ item ∷ []) ≡ put rank item (leasts rank (length places) given)
  with_item places given item k =
      let h = leasts rank (length places) given in
      ap (λ l. in_order rank (l ++ item ∷ [])) (items_are places given k)
      ∙ sym (put_in_order rank item h)
      ∙ ap (put rank item) (in_order_same rank h (least_leasts rank (length places) given).by_rank)

  -- a keeper of the given items and the item, and what is out
  taken : (before given after : List X) (item : X) (out : List X) → lower (rank item) (rank empty) ≡ true → Keeps rank empty before given → length after ≡ length before
      → after ≡ kept (length before) (given ++ item ∷ []) → out ≡ drop (length before) (put rank item (leasts rank (length before) given)) → Takes rank empty given before item after out
  taken before given after item out l k long e o =
      let n = length before in
      let all = with_item before given item k in
      let keeps : Keeps rank empty after (given ++ item ∷ []) = keeps_from after (given ++ item ∷ []) (All-push _ given item k.above l) (e ∙ ap (λ j. kept j (given ++ item ∷ [])) (sym long)) in
      record {
        keeps = keeps;
        held = items_are after (given ++ item ∷ []) keeps ∙ ap (λ j. leasts rank j (given ++ item ∷ [])) long ∙ leasts_push rank n item given ∙ ap (take n) (sym all);
        put_out = o ∙ ap (drop n) (sym all);
      }

  pub takes_from : (before given after : List X) (item carried : X) (out : List X) → lower (rank item) (rank empty) ≡ true → put rank item before ≡ after ++ carried ∷ [] → out ≡ option_to_list (then_some (lower (rank carried) (rank empty)) carried) → Keeps rank empty before given → Takes rank empty given before item after out
  takes_from before given after item carried out l e o k = go (n - length given) refl
    where
      n : ℕ
      n = length before

      h : List X
      h = leasts rank n given

      long : length after ≡ n
      long = omega (arith, length_put rank item before, ap length e, length_push after carried)

      parts : put rank item h ++ replicate (n - length given) empty ≡ after ++ carried ∷ []
      parts = sym (put_before_marks rank empty item l (n - length given) h) ∙ ap (put rank item) (sym (kept_from before given k)) ∙ e

      go : (m : ℕ) → n - length given ≡ m → Takes rank empty given before item after out
      go zero f =
          let whole : put rank item h ≡ after ++ carried ∷ [] = sym (append-nil (put rank item h)) ∙ ap (λ m. put rank item h ++ replicate m empty) (sym f) ∙ parts in
          let full : n - length (given ++ item ∷ []) ≡ 0 = omega (arith, length_push given item) in
          let low : lower (rank carried) (rank empty) ≡ true =
          all-has _ (after ++ carried ∷ []) carried (subst (AllByRecursion (λ x. lower (rank x) (rank empty) ≡ true)) whole (all_put rank _ item h l (all_leasts rank _ n given k.above))) (has_push after carried) in
          taken before given after item out l k long
          (sym (take_at after (carried ∷ []) n long) ∙ ap (take n) (sym whole) ∙ sym (leasts_push rank n item given) ∙ sym (append-nil _) ∙ ap (λ m. leasts rank n (given ++ item ∷ []) ++ replicate m empty) (sym full))
          (o ∙ ap (λ t. option_to_list (then_some t carried)) low ∙ sym (drop_at after (carried ∷ []) n long) ∙ ap (drop n) (sym whole))
      go (suc m) f =
          let free : n - length given ≡ m + 1 = omega arith in
          let ends : (put rank item h ++ replicate m empty) ++ empty ∷ [] ≡ after ++ carried ∷ [] =
          append_assoc (put rank item h) (replicate m empty) (empty ∷ []) ∙ ap (λ r. put rank item h ++ r) (replicate_more m empty) ∙ ap (λ j. put rank item h ++ replicate j empty) (sym free) ∙ parts in
          let apart = same_from_push (put rank item h ++ replicate m empty) after empty carried ends in
          let short : length (put rank item h) ≤ n = omega (arith, length_put rank item h, length_leasts rank n given) in
          let free' : n - length (given ++ item ∷ []) ≡ m = omega (arith, length_push given item) in
          taken before given after item out l k long
          (sym apart.0 ∙ ap (λ r. r ++ replicate m empty) (sym (take_all n (put rank item h) short) ∙ sym (leasts_push rank n item given)) ∙ ap (λ j. leasts rank n (given ++ item ∷ []) ++ replicate j empty) (sym free'))
          (o ∙ ap (λ x. option_to_list (then_some (lower (rank x) (rank empty)) x)) (sym apart.1) ∙ ap (λ t. option_to_list (then_some t empty)) (not_lower_itself (rank empty)) ∙ sym (drop_all n (put rank item h) short))
