-- One offer more, and what the best one tells.
use Rattle.std.proofs.Common.{◌≡◌, ℕ, ◌<◌, ◌≤◌, Bool, true, false, cond, not, ltb, ◌⊎◌, ◌||◌, List, [], ◌∷◌, ◌++◌, length, Some, None, IfSome, IfNone, Option, sym, refl, ap, ◌∙◌, subst, inl, inr, ⊎_elim, arith}
use Rattle.std.specs.Cmp.{nat_cmp_is}
use Rattle.std.specs.Option.{option_map}
use Rattle.std.specs.Ordering.{min_by_ordering, ordering_then, nat_cmp, bool_cmp}
use Rattle.std.specs.declared.cmp.Ordering.{Ordering}
use Rattle.std.specs.declared.cmp.Ordering.TheVariants.{Less, Equal, Greater}
use Rattle.std.specs.List.{reduce}
use Rattle.std.proofs.lemmas.List.{append-nil}
use Rattle.std.proofs.lemmas.Bool.{eq-eqb, cases_order, ltb-true}
use Rattle.rules.specs.Arrival.{taker}
use Rattle.rules.specs.Choosing.{In, lowest}
use Rattle.rules.proofs.Totals.{in_kept, kept_in}
use Rattle.pool.specs.declared.Cluster.{Cluster}
use Rattle.pool.specs.Tables.{label_at}
use Rattle.choice.specs.declared.arrival.Offer.{Offer}
use Rattle.choice.specs.Offers.{smallest_of, lightest, fitting, rather, weighed, best_of, decided}
use Rattle.choice.specs.Places.{home_of}
use Rattle.choice.proofs.Firsts.{in_some, kept_push, minimal_tells, minimal_none, minimal_over, minimal_same, minimal_under, least_tells, least_none, least_first}
use Rattle.choice.proofs.Lowest.{lower, reduced, least_more}

abbrev size_of : Offer → ℕ
size_of x = x.size

abbrev raise_of : Offer → ℕ
raise_of x = x.raise

-- by the raise, then those that fit, then by the size
abbrev pub rank : Offer → ℕ × Bool × ℕ
rank x = (x.raise, not x.fits, x.size)

abbrev pub by_rank : ℕ × Bool × ℕ → ℕ × Bool × ℕ → Ordering
by_rank x y = ordering_then (ordering_then (nat_cmp x.0 y.0) (bool_cmp x.1 y.1)) (nat_cmp x.2 y.2)

-- the best of offers is the smallest that fits, or the smallest where none fits
abbrev Best : List Offer → Offer → Type 0
Best xs b = ((smallest_of (fitting xs) ≡ Some b) × (b.fits ≡ true)) ⊎ ((fitting xs ≡ []) × (smallest_of xs ≡ Some b) × (b.fits ≡ false))

fits_first : (xs : List Offer) (x : Offer) → smallest_of (fitting xs) ≡ Some x → x.fits ≡ true
fits_first xs x e = (kept_in (λ x. x.fits) xs x (least_tells size_of (fitting xs) x e).0).1

none_fits : (xs : List Offer) (x : Offer) → smallest_of (fitting xs) ≡ None → smallest_of xs ≡ Some x → x.fits ≡ false
none_fits xs x n e = go x.fits refl
  where
    go : (t : Bool) → x.fits ≡ t → x.fits ≡ false
    go true f = absurd (subst (λ ys. In ys x) (least_none size_of (fitting xs) n) (in_kept (λ x. x.fits) xs x (least_tells size_of xs x e).0 f))
    go false f = f

best_is : (xs : List Offer) (b : Offer) → weighed xs ≡ Some b → Best xs b
best_is xs b e = go (smallest_of (fitting xs)) refl e
  where
    go : (f : Option Offer) → smallest_of (fitting xs) ≡ f → rather f (smallest_of xs) ≡ Some b → Best xs b
    go (Some x) h e = inl (h ∙ e, fits_first xs b (h ∙ e))
    go None h e = inr (least_none size_of (fitting xs) h, e, none_fits xs b h e)

best_in : (xs : List Offer) (b : Offer) → Best xs b → In xs b
best_in xs b (inl h) = (kept_in (λ x. x.fits) xs b (least_tells size_of (fitting xs) b h.0).0).0
best_in xs b (inr h) = (least_tells size_of xs b h.1).0

pub best_among : (xs : List Offer) (b : Offer) → best_of xs ≡ Some b → In xs b × (b.raise ≡ lowest raise_of xs)
best_among xs b e = minimal_tells raise_of xs b (best_in (lightest xs) b (best_is (lightest xs) b e))

pub best_none : (xs : List Offer) → best_of xs ≡ None → xs ≡ []
best_none xs e = minimal_none raise_of xs (go (smallest_of (fitting (lightest xs))) e)
  where
    go : (f : Option Offer) → rather f (smallest_of (lightest xs)) ≡ None → lightest xs ≡ []
    go (Some x) h = let z : ◌≡◌ {A = ℕ} 0 1 = cc in absurd (omega (arith, z))
    go None h = least_none size_of (lightest xs) h

-- ---- one offer more

weighed_one : (o : Offer) → weighed (o ∷ []) ≡ Some o
weighed_one o = go o.fits refl
  where
    alone : smallest_of (o ∷ []) ≡ Some o
    alone = least_first size_of [] o refl

    go : (t : Bool) → o.fits ≡ t → weighed (o ∷ []) ≡ Some o
    go true f = ap (λ t. rather (smallest_of (cond t (o ∷ []) [])) (smallest_of (o ∷ []))) f ∙ ap (λ s. rather s (smallest_of (o ∷ []))) alone
    go false f = ap (λ t. rather (smallest_of (cond t (o ∷ []) [])) (smallest_of (o ∷ []))) f ∙ alone

-- of equal raises
abbrev by_fit : Offer → Offer → Ordering
by_fit b o = ordering_then (bool_cmp (not b.fits) (not o.fits)) (nat_cmp b.size o.size)

module _ (xs : List Offer) (b o : Offer) where
  grown : (t : Bool) → o.fits ≡ t → fitting (xs ++ o ∷ []) ≡ fitting xs ++ cond t (o ∷ []) []
  grown t f = kept_push (λ x. x.fits) xs o t f

  fits_as : (s t : Bool) → b.fits ≡ s → o.fits ≡ t → min_by_ordering (ordering_then (bool_cmp (not s) (not t)) (nat_cmp b.size o.size)) b o ≡ min_by_ordering (by_fit b o) b o
  fits_as s t e f = ap (λ w. min_by_ordering (ordering_then (bool_cmp (not w) (not t)) (nat_cmp b.size o.size)) b o) (sym e) ∙ ap (λ w. min_by_ordering (ordering_then (bool_cmp (not b.fits) (not w)) (nat_cmp b.size o.size)) b o) (sym f)

  weighed_more : Best xs b → (t : Bool) → o.fits ≡ t → weighed (xs ++ o ∷ []) ≡ Some (min_by_ordering (by_fit b o) b o)
  weighed_more (inl h) true f =
      ap (λ ys. rather (smallest_of ys) (smallest_of (xs ++ o ∷ []))) (grown true f)
      ∙ ap (λ s. rather s (smallest_of (xs ++ o ∷ []))) (least_more size_of (fitting xs) b o h.0) ∙ ap Some (fits_as true true h.1 f)
  weighed_more (inl h) false f =
      ap (λ ys. rather (smallest_of ys) (smallest_of (xs ++ o ∷ []))) (grown false f ∙ append-nil (fitting xs))
      ∙ ap (λ s. rather s (smallest_of (xs ++ o ∷ []))) h.0 ∙ ap Some (fits_as true false h.1 f)
  weighed_more (inr h) true f =
      ap (λ ys. rather (smallest_of ys) (smallest_of (xs ++ o ∷ []))) (grown true f ∙ ap (λ ys. ys ++ o ∷ []) h.0)
      ∙ ap (λ s. rather s (smallest_of (xs ++ o ∷ []))) (least_first size_of [] o refl) ∙ ap Some (fits_as false true h.2 f)
  weighed_more (inr h) false f =
      ap (λ ys. rather (smallest_of ys) (smallest_of (xs ++ o ∷ []))) (grown false f ∙ append-nil (fitting xs) ∙ h.0)
      ∙ least_more size_of xs b o h.1 ∙ ap Some (fits_as false false h.2 f)

best_more : (xs : List Offer) (b o : Offer) → best_of xs ≡ Some b → best_of (xs ++ o ∷ []) ≡ Some (lower rank by_rank b o)
best_more xs b o e = ⊎_elim {C = best_of (xs ++ o ∷ []) ≡ Some (lower rank by_rank b o)}
    (λ s. ap weighed (minimal_same raise_of xs o some (omega (arith, s, at))) ∙ weighed_more (lightest xs) b o (best_is (lightest xs) b e) o.fits refl ∙ ap Some (ordered Equal (nat_cmp_is b.raise o.raise Equal s)))
    (λ d. ⊎_elim {C = best_of (xs ++ o ∷ []) ≡ Some (lower rank by_rank b o)}
    (λ l. ap weighed (minimal_over raise_of xs o some (omega (arith, l, at))) ∙ e ∙ ap Some (ordered Less (nat_cmp_is b.raise o.raise Less l)))
    (λ l. ap weighed (minimal_under raise_of xs o some (omega (arith, l, at))) ∙ weighed_one o ∙ ap Some (ordered Greater (nat_cmp_is b.raise o.raise Greater l))) d)
    (cases_order b.raise o.raise)
  where
    at : b.raise ≡ lowest raise_of xs
    at = (best_among xs b e).1

    some : 1 ≤ length xs
    some = in_some xs b (best_among xs b e).0

    ordered : (w : Ordering) → w ≡ nat_cmp b.raise o.raise → min_by_ordering (ordering_then (ordering_then w (bool_cmp (not b.fits) (not o.fits))) (nat_cmp b.size o.size)) b o ≡ lower rank by_rank b o
    ordered w k = ap (λ w. min_by_ordering (ordering_then (ordering_then w (bool_cmp (not b.fits) (not o.fits))) (nat_cmp b.size o.size)) b o) k

pub best_reduced : (xs : List Offer) → reduce (lower rank by_rank) xs ≡ best_of xs
best_reduced = reduced best_of (lower rank by_rank) (λ o. ap weighed (ap (λ t. cond t (o ∷ []) []) (eq-eqb o.raise o.raise refl)) ∙ weighed_one o) best_more refl

-- ---- what is decided

abbrev pub label_of : List Cluster → Offer → ℕ
label_of cs o = label_at cs o.place

module _ (cs : List Cluster) (room : Bool) (new : ℕ) where
  settled : (f c : Option Offer) → ((x : Offer) → f ≡ Some x → x.fits ≡ true) → ((x : Offer) → f ≡ None → c ≡ Some x → x.fits ≡ false)
      → taker (option_map (label_of cs) f) room (option_map (label_of cs) c) new ≡ home_of (decided room (rather f c)) cs new
  settled (Some x) c t n = ap (λ b. home_of (cond (b || not room) (Some x.place) None) cs new) (sym (t x refl))
  settled None (Some x) t n = go room ∙ ap (λ b. home_of (cond (b || not room) (Some x.place) None) cs new) (sym (n x refl refl))
    where
      go : (r : Bool) → taker None r (Some (label_at cs x.place)) new ≡ home_of (cond (not r) (Some x.place) None) cs new
      go true = refl
      go false = refl
  settled None None t n = go room
    where
      go : (r : Bool) → taker None r None new ≡ new
      go true = refl
      go false = refl

  -- as the rules say of the smallest that fits and of the smallest
  pub decided_home : (xs : List Offer) → taker (option_map (label_of cs) (smallest_of (fitting xs))) room (option_map (label_of cs) (smallest_of xs)) new ≡ home_of (decided room (weighed xs)) cs new
  decided_home xs = settled (smallest_of (fitting xs)) (smallest_of xs) (fits_first xs) (none_fits xs)

pub decided_within : (n : ℕ) (room : Bool) (r : Option Offer) → ((b : Offer) → r ≡ Some b → b.place < n) → IfSome (decided room r) (λ i. i < n)
decided_within n room None h = tt
decided_within n room (Some b) h = go (b.fits || not room)
  where
    go : (t : Bool) → IfSome (cond t (Some b.place) None) (λ i. i < n)
    go true = h b refl
    go false = tt

pub decided_room : (n beta : ℕ) (r : Option Offer) → (r ≡ None → n ≡ 0) → IfNone (decided (ltb n beta) r) ((n < beta) ⊎ (n ≡ 0))
decided_room n beta None h = inr (h refl)
decided_room n beta (Some b) h = go b.fits (ltb n beta) refl
  where
    go : (t room : Bool) → ltb n beta ≡ room → IfNone (cond (t || not room) (Some b.place) None) ((n < beta) ⊎ (n ≡ 0))
    go true room e = tt
    go false true e = inl (ltb-true n beta e)
    go false false e = tt
