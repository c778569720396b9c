-- The laws of the choices from lists.
use Rattle.std.proofs.Common.{◌≡◌, ℕ, ◌<◌, ◌≤◌, Bool, true, false, cond, eqb, ltb, ◌⊎◌, List, [], ◌∷◌, ◌++◌, map, length, Some, None, filter, Option, sym, refl, ap, ◌∙◌, subst, inl, inr, ⊎_elim, arith}
use Rattle.std.specs.List.{AllByRecursion}
use Rattle.std.proofs.lemmas.List.{append-nil, map-append}
use Rattle.std.proofs.lemmas.List.Elements.{filter-append}
use Rattle.std.proofs.lemmas.Bool.{ne_eqb, eqb-true, eqb-false, eq-eqb, ltb-false, or_left}
use Rattle.rules.specs.declared.Held.{Held}
use Rattle.rules.specs.Choosing.{In, head, lowest, minimal, least, different, listed, lower}
use Rattle.domain.specs.Meaning.{Meaning}
use Rattle.rules.specs.declared.Entry.{Entry}
use Rattle.release.specs.declared.Settings.{Settings}
use Rattle.rules.specs.Clusters.{records, members, by_age, clusters}
use Rattle.rules.specs.States.{State}
use Rattle.rules.specs.Arrival.{home}
use Rattle.rules.specs.Split.{growth, joins_first}
use Rattle.rules.specs.Promise.{one}
use Rattle.rules.specs.Laws.{HasLeast, MinimalLaw, FirstLeast, LeastLaw, ByRank, Once, DifferentLaw, Ascending, ClustersLaw, ArrivalLaw, MergerLaw, Settles, Choices}
use Rattle.rules.proofs.Totals.{true_false, all_in, in_all, kept_in, in_kept, in_map, map_in, append_in, mark, total_in_order, one_self}
use Rattle.rules.proofs.Numbers.{times, in_times, in_listed, listed_in, times_listed, times_different, different_once, lowest_le, lowest_some}
use Rattle.rules.proofs.Ranks.{by_rank_in_order, lowest_ranked_law, keeping_law}
use Rattle.rules.proofs.Parts.{cut_ends, parts_total, parts_large}
use Rattle.rules.specs.Around.{Together}
use Rattle.rules.specs.Turn.{moved, merged}
use Rattle.rules.proofs.Homes.{housed}
use Rattle.rules.proofs.Turns.{grown_large, moved_entry}

module _ {X : Type 0} (key : X → ℕ) where
  minimal_sound : (xs : List X) (x : X) → In (minimal key xs) x → HasLeast key xs x
  minimal_sound xs x i =
      let r = kept_in (λ y. eqb (key y) (lowest key xs)) xs x i in
      let e : key x ≡ lowest key xs = eqb-true _ _ r.1 in
      (r.0, all_in _ xs (λ y j. omega (arith, e, lowest_le key xs y j)))

  minimal_complete : (xs : List X) (x : X) → HasLeast key xs x → In (minimal key xs) x
  minimal_complete [] x h = h.0
  minimal_complete (z ∷ zs) x h =
      let r = lowest_some key z zs in
      let le : key x ≤ key r.0 = in_all (λ y. key x ≤ key y) (z ∷ zs) r.0 h.1 r.1 in
      in_kept (λ y. eqb (key y) (lowest key (z ∷ zs))) (z ∷ zs) x h.0 (eq-eqb _ _ (omega (arith, le, r.2, lowest_le key (z ∷ zs) x h.0)))

  pub minimal_law : (xs : List X) → MinimalLaw key xs
  minimal_law xs = record { sound = minimal_sound xs; complete = minimal_complete xs }

  -- the first that passes stands behind those that do not
  record SplitAt (q : X → Bool) (xs : List X) (x : X) : Type 0 where
    ahead : List X
    behind : List X
    stands : xs ≡ ahead ++ x ∷ behind
    fail : AllByRecursion (λ y. q y ≡ false) ahead
    pass : q x ≡ true

  abbrev Split : (q : X → Bool) → List X → Option X → Type 0
  Split q xs (Some x) = SplitAt q xs x
  Split q xs None = AllByRecursion (λ y. q y ≡ false) xs

  first_splits : (q : X → Bool) (xs : List X) → Split q xs (head (filter q xs))
  first_splits q [] = tt
  first_splits q (x ∷ xs) = go (q x) refl (head (filter q xs)) refl (first_splits q xs)
    where
      later : (o : Option X) → q x ≡ false → Split q xs o → Split q (x ∷ xs) o
      later None e f = (e, f)
      later (Some y) e f = record { ahead = x ∷ f.ahead; behind = f.behind; stands = ap (λ l. x ∷ l) f.stands; fail = (e, f.fail); pass = f.pass }

      go : (b : Bool) → q x ≡ b → (o : Option X) → head (filter q xs) ≡ o → Split q xs o → Split q (x ∷ xs) (head (cond b (x ∷ filter q xs) (filter q xs)))
      go true e o s f = record { ahead = []; behind = xs; stands = refl; fail = tt; pass = e }
      go false e o s f = subst (Split q (x ∷ xs)) (sym s) (later o e f)

  -- the first that has the least key
  least_at : (z : X) (zs : List X) (x : X) → SplitAt (λ y. eqb (key y) (lowest key (z ∷ zs))) (z ∷ zs) x → FirstLeast key (z ∷ zs) x
  least_at z zs x f =
      let e : key x ≡ lowest key (z ∷ zs) = eqb-true _ _ f.pass in
      let le : (y : X) → In (f.ahead ++ x ∷ f.behind) y → key x ≤ key y = λ y i. omega (arith, e, lowest_le key (z ∷ zs) y (subst (λ l. In l y) (sym f.stands) i)) in
      record {
        ahead = f.ahead;
        behind = f.behind;
        stands = f.stands;
        above = all_in _ f.ahead (λ y i. let ne = eqb-false _ _ (in_all (λ y. eqb (key y) (lowest key (z ∷ zs)) ≡ false) f.ahead y f.fail i) in omega (arith, ne, e, le y (append_in f.ahead (x ∷ f.behind) y (inl i))));
        no_lower = all_in _ f.behind (λ y i. le y (append_in f.ahead (x ∷ f.behind) y (inr (inr i))));
      }

  pub least_law : (xs : List X) → LeastLaw key xs (least key xs)
  least_law [] = refl
  least_law (z ∷ zs) = go (least key (z ∷ zs)) (first_splits (λ y. eqb (key y) (lowest key (z ∷ zs))) (z ∷ zs))
    where
      go : (o : Option X) → Split (λ y. eqb (key y) (lowest key (z ∷ zs))) (z ∷ zs) o → LeastLaw key (z ∷ zs) o
      go None f = let r = lowest_some key z zs in true_false (eq-eqb _ _ r.2) (in_all (λ y. eqb (key y) (lowest key (z ∷ zs)) ≡ false) (z ∷ zs) r.0 f r.1)
      go (Some x) f = least_at z zs x f

-- ---- the different numbers

apart_once : (xs : List ℕ) → ((o : ℕ) → times o xs ≤ 1) → Once xs
apart_once [] h = tt
apart_once (x ∷ xs) h = ((λ i. omega (arith, h x, one_self x, in_times x xs i)), apart_once xs (λ o. omega (arith, h o)))

pub different_law : (xs : List ℕ) → DifferentLaw xs
different_law xs = record {
  none_lost = λ x i. listed_in x (different xs) (times_listed x (different xs) (omega (arith, times_different x xs, mark (in_listed x xs i))));
  none_made = λ x i. made x (listed x xs) refl (in_times x (different xs) i);
  once = apart_once (different xs) (λ o. different_once o xs);
}
  where
    made : (x : ℕ) (b : Bool) → listed x xs ≡ b → 1 ≤ times x (different xs) → In xs x
    made x true e l = listed_in x xs e
    made x false e l = absurd (omega (arith, l, times_different x xs, mark e))

-- ---- the open clusters

age_lower : (a b : ℕ) → lower (by_age b) (by_age a) ≡ false → (a ≡ b → ⊥) → a < b
age_lower a b e n = go (ltb b a) refl
  where
    go : (t : Bool) → ltb b a ≡ t → a < b
    go true f = true_false (or_left (ltb b a) _ f) e
    go false f = let l = ltb-false b a f in omega (arith, l, n)

ascending : (xs : List ℕ) → ByRank by_age xs → ((o : ℕ) → times o xs ≤ 1) → Ascending xs
ascending [] h a = tt
ascending (x ∷ xs) h a = (
  all_in _ xs (λ y i. age_lower x y (in_all (λ y. lower (by_age y) (by_age x) ≡ false) xs y h.0 i) (λ e. omega (arith, a x, one_self x, subst (λ z. 1 ≤ times z xs) (sym e) (in_times y xs i)))),
  ascending xs h.1 (λ o. omega (arith, a o)),
)

pub clusters_law : (hs : List Held) → ClustersLaw hs
clusters_law hs =
    let labels = map (λ (h : Held). h.label) hs in
    let same : (o : ℕ) → times o (clusters hs) ≡ times o (different labels) = λ o. total_in_order (one o) by_age (different labels) in
    let d = different_law labels in
    record {
      oldest_first = ascending (clusters hs) (by_rank_in_order by_age (different labels)) (λ o. omega (arith, same o, different_once o labels));
      some_held = λ c i. map_in (λ (h : Held). h.label) hs c (d.none_made c (listed_in c (different labels) (times_listed c (different labels) (omega (arith, same c, in_times c (clusters hs) i)))));
      listed = λ h i. listed_in h.label (clusters hs) (times_listed h.label (clusters hs) (omega (arith, same h.label, in_times h.label (different labels) (d.none_lost h.label (in_map (λ (h : Held). h.label) hs h i)))));
    }

-- ---- arrival

-- one held record more
pub pushed : (c : ℕ) (hs : List Held) (x : Held) (b : Bool) → eqb x.label c ≡ b → members c (hs ++ x ∷ []) ≡ members c hs ++ cond b (x.entry ∷ []) []
pushed c hs x b e =
    ap records (filter-append (λ h. eqb h.label c) hs (x ∷ [])) ∙ map-append (λ (h : Held). h.entry) (filter (λ h. eqb h.label c) hs) (filter (λ h. eqb h.label c) (x ∷ []))
    ∙ ap (λ es. members c hs ++ es) (last b e)
  where
    last : (b : Bool) → eqb x.label c ≡ b → records (filter (λ h. eqb h.label c) (x ∷ [])) ≡ cond b (x.entry ∷ []) []
    last true e = ap (λ t. records (cond t (x ∷ []) [])) e
    last false e = ap (λ t. records (cond t (x ∷ []) [])) e

pub arrives : (m : Meaning) (g : Settings) (s : State) (e : Entry) → ArrivalLaw m g s e
arrives m g s e =
    let x : Held = record { entry = e; label = home m g s e } in
    record {
      either = ⊎_elim inl (λ r. inr r.0) (housed m g s e);
      takes = pushed (home m g s e) s.held x true (eq-eqb _ _ refl);
      no_other = λ c n. pushed c s.held x false (ne_eqb (home m g s e) c n) ∙ append-nil (members c s.held);
    }

-- ---- mergers

-- one held record more, at the front
pub at_front : (c : ℕ) (h : Held) (hs : List Held) (b : Bool) → eqb h.label c ≡ b → members c (h ∷ hs) ≡ cond b (h.entry ∷ members c hs) (members c hs)
at_front c h hs true e = ap (λ t. records (cond t (h ∷ filter (λ h. eqb h.label c) hs) (filter (λ h. eqb h.label c) hs))) e
at_front c h hs false e = ap (λ t. records (cond t (h ∷ filter (λ h. eqb h.label c) hs) (filter (λ h. eqb h.label c) hs))) e

pub member_in : (c : ℕ) (hs : List Held) (h : Held) → In hs h → h.label ≡ c → In (members c hs) h.entry
member_in c hs h i e = in_map (λ (h : Held). h.entry) (filter (λ h. eqb h.label c) hs) h (in_kept (λ h. eqb h.label c) hs h i (eq-eqb _ _ e))

pub in_member : (c : ℕ) (hs : List Held) (e : Entry) → In (members c hs) e → (h : Held) × In hs h × (h.label ≡ c) × (h.entry ≡ e)
in_member c hs e i =
    let r = map_in (λ (h : Held). h.entry) (filter (λ h. eqb h.label c) hs) e i in
    let k = kept_in (λ h. eqb h.label c) hs r.0 r.1 in
    (r.0, k.0, eqb-true _ _ k.1, r.2)

-- the label after the merger
pub moved_to : (c d : ℕ) (h : Held) (b : Bool) → eqb h.label d ≡ b → (moved c d h).label ≡ cond b c h.label
moved_to c d h true e = ap (λ t. (cond t (record { entry = h.entry; label = c }) h).label) e
moved_to c d h false e = ap (λ t. (cond t (record { entry = h.entry; label = c }) h).label) e

merger_takes : (c d : ℕ) (hs : List Held) → Together (members c hs) (members d hs) (members c (merged c d hs))
merger_takes c d hs = record {
  either = all_in _ (members c (merged c d hs)) (λ e i.
      let r = in_member c (merged c d hs) e i in
      let o = map_in (moved c d) hs r.0 r.1 in
      from o.0 o.1 e (ap (λ x. x.label) o.2 ∙ r.2) (sym (moved_entry c d o.0) ∙ ap (λ x. x.entry) o.2 ∙ r.3) (eqb o.0.label d) refl);
  all_first = all_in _ (members c hs) (λ e i. let r = in_member c hs e i in into r.0 r.1 e r.3 (stays r.0 r.2 (eqb r.0.label d) refl));
  all_second = all_in _ (members d hs) (λ e i. let r = in_member d hs e i in into r.0 r.1 e r.3 (moved_to c d r.0 true (eq-eqb _ _ r.2)));
}
  where
    into : (h : Held) → In hs h → (e : Entry) → h.entry ≡ e → (moved c d h).label ≡ c → In (members c (merged c d hs)) e
    into h i e s l = subst (In (members c (merged c d hs))) (moved_entry c d h ∙ s) (member_in c (merged c d hs) (moved c d h) (in_map (moved c d) hs h i) l)

    stays : (h : Held) → h.label ≡ c → (b : Bool) → eqb h.label d ≡ b → (moved c d h).label ≡ c
    stays h l true f = moved_to c d h true f
    stays h l false f = moved_to c d h false f ∙ l

    from : (h : Held) → In hs h → (e : Entry) → (moved c d h).label ≡ c → h.entry ≡ e → (b : Bool) → eqb h.label d ≡ b → In (members c hs) e ⊎ In (members d hs) e
    from h i e l s true f = inr (subst (In (members d hs)) s (member_in d hs h i (eqb-true _ _ f)))
    from h i e l s false f = inl (subst (In (members c hs)) s (member_in c hs h i (sym (moved_to c d h false f) ∙ l)))

merger_closes : (c d : ℕ) (hs : List Held) → (c ≡ d → ⊥) → members d (merged c d hs) ≡ []
merger_closes c d [] n = refl
merger_closes c d (h ∷ hs) n = at_front d (moved c d h) (merged c d hs) false (ne_eqb _ _ (away (eqb h.label d) refl)) ∙ merger_closes c d hs n
  where
    away : (b : Bool) → eqb h.label d ≡ b → (moved c d h).label ≡ d → ⊥
    away true f e = n (sym (moved_to c d h true f) ∙ e)
    away false f e = eqb-false _ _ f (sym (moved_to c d h false f) ∙ e)

merger_leaves : (c d : ℕ) (hs : List Held) (x : ℕ) → (x ≡ c → ⊥) → (x ≡ d → ⊥) → members x (merged c d hs) ≡ members x hs
merger_leaves c d [] x p q = refl
merger_leaves c d (h ∷ hs) x p q = go (eqb h.label d) refl (merger_leaves c d hs x p q)
  where
    go : (b : Bool) → eqb h.label d ≡ b → members x (merged c d hs) ≡ members x hs → members x (moved c d h ∷ merged c d hs) ≡ members x (h ∷ hs)
    go true f ih = at_front x (moved c d h) (merged c d hs) false (ne_eqb _ _ (λ e. p (sym e ∙ moved_to c d h true f))) ∙ ih ∙ sym (at_front x h hs false (ne_eqb _ _ (λ e. q (sym e ∙ eqb-true _ _ f))))
    go false f ih =
        let l : (moved c d h).label ≡ h.label = moved_to c d h false f in
        at_front x (moved c d h) (merged c d hs) (eqb h.label x) (ap (λ z. eqb z x) l)
        ∙ ap (λ e. cond (eqb h.label x) (e ∷ members x (merged c d hs)) (members x (merged c d hs))) (moved_entry c d h)
        ∙ ap (λ es. cond (eqb h.label x) (h.entry ∷ es) es) ih ∙ sym (at_front x h hs (eqb h.label x) refl)

pub merger_law : (c d : ℕ) (hs : List Held) → MergerLaw c d hs
merger_law c d hs = record { takes = merger_takes c d hs; closes = merger_closes c d hs; no_other = merger_leaves c d hs }

-- ---- leftover owners

joined_at : (q : List ℕ → Bool) (w : ℕ) (us vs : List (List ℕ)) (p : List ℕ) → AllByRecursion (λ y. q y ≡ false) us → q p ≡ true → joins_first q w (us ++ p ∷ vs) ≡ us ++ (p ++ w ∷ []) ∷ vs
joined_at q w [] vs p a e = ap (λ t. cond t ((p ++ w ∷ []) ∷ vs) (p ∷ joins_first q w vs)) e
joined_at q w (u ∷ us) vs p a e = ap (λ t. cond t ((u ++ w ∷ []) ∷ (us ++ p ∷ vs)) (u ∷ joins_first q w (us ++ p ∷ vs))) a.0 ∙ ap (λ l. u ∷ l) (joined_at q w us vs p a.1 e)

pub settles : (m : Meaning) (es : List Entry) (ps : List (List ℕ)) (w : ℕ) → 1 ≤ length ps → Settles m es ps w
unfolding least_at
settles m es [] w l = absurd (omega (arith, l))
settles m es (z ∷ zs) w l = go (least key (z ∷ zs)) (least_law key (z ∷ zs)) (first_splits key q (z ∷ zs))
  where
    key : List ℕ → ℕ
    key = growth m es w

    q : List ℕ → Bool
    q p = eqb (growth m es w p) (lowest (growth m es w) (z ∷ zs))

    go : (o : Option (List ℕ)) → LeastLaw (growth m es w) (z ∷ zs) o → Split (growth m es w) (λ p. eqb (growth m es w p) (lowest (growth m es w) (z ∷ zs))) (z ∷ zs) o → Settles m es (z ∷ zs) w
    go None f h = absurd (omega (arith, ap length f))
    go (Some p) f h = record {
      grows = p;
      first = least_at (growth m es w) z zs p h;
      joined = ap (joins_first (λ p. eqb (growth m es w p) (lowest (growth m es w) (z ∷ zs))) w) h.stands ∙ joined_at _ w h.ahead h.behind p h.fail h.pass;
    }

pub choices : Choices
choices = record {
  clusters_minimal = minimal_law;
  clusters_least = least_law;
  owners_nearest = lowest_ranked_law;
  boxes_lowest = lowest_ranked_law;
  numbers_different = different_law;
  open_clusters = clusters_law;
  boxes_kept = keeping_law;
  arrivals = arrives;
  mergers = merger_law;
  leftovers = settles;
  cluster_parts = λ m k es pos. record { each_once = λ f. parts_total f m k es pos; crowds = parts_large m k es pos };
  rounds = record { cut_ends = cut_ends; take_over_ends = grown_large };
}
