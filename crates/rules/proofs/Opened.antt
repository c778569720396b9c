-- The open clusters of held records that change: `clusters` is the one ascending list that has their labels.
use Rattle.std.proofs.Common.{◌≡◌, ℕ, ◌<◌, Bool, true, false, cond, not, eqb, ◌⊎◌, List, [], ◌∷◌, ◌++◌, filter, sym, refl, ap, ◌∙◌, subst, inl, inr, arith}
use Rattle.std.specs.List.{AllByRecursion}
use Rattle.std.proofs.ByRecursion.{all_kept_by}
use Rattle.std.proofs.lemmas.Bool.{ne_eqb, eqb-true, not-true, not_from_false}
use Rattle.keeper.proofs.Filters.{kept_by_within}
use Rattle.rules.specs.declared.Held.{Held}
use Rattle.rules.specs.Choosing.{In}
use Rattle.rules.specs.Clusters.{records, members, others, clusters}
use Rattle.rules.specs.Laws.{Ascending}
use Rattle.rules.specs.Turn.{moved, merged}
use Rattle.rules.proofs.Totals.{in_all, all_in, in_append, append_in, kept_in, in_kept, in_map, map_in}
use Rattle.rules.proofs.Choices.{clusters_law, moved_to}

-- ---- ascending lists

pub ascending_same : (xs ys : List ℕ) → Ascending xs → Ascending ys → ((x : ℕ) → In xs x → In ys x) → ((y : ℕ) → In ys y → In xs y) → xs ≡ ys
ascending_same [] [] h k f g = refl
ascending_same [] (y ∷ ys) h k f g = absurd (g y (inl refl))
ascending_same (x ∷ xs) [] h k f g = absurd (f x (inl refl))
ascending_same (x ∷ xs) (y ∷ ys) h k f g =
    let same = first (f x (inl refl)) (g y (inl refl)) in
    let rest = ascending_same xs ys h.1 k.1 (λ z i. behind z x y xs ys h.0 i same (f z (inr i))) (λ z i. behind z y x ys xs k.0 i (sym same) (g z (inr i))) in
    cc
  where
    first : (y ≡ x) ⊎ In ys x → (x ≡ y) ⊎ In xs y → x ≡ y
    first (inl e) _ = sym e
    first (inr i) (inl e) = e
    first (inr i) (inr j) = absurd (omega (arith, in_all (λ z. y < z) ys x k.0 i, in_all (λ z. x < z) xs y h.0 j))

    behind : (z a b : ℕ) (us bs : List ℕ) → AllByRecursion (λ u. a < u) us → In us z → a ≡ b → (b ≡ z) ⊎ In bs z → In bs z
    behind z a b us bs l i e (inl f) = absurd (omega (arith, in_all (λ u. a < u) us z l i, e, f))
    behind z a b us bs l i e (inr j) = j

pub ascending_kept : (p : ℕ → Bool) (xs : List ℕ) → Ascending xs → Ascending (filter p xs)
ascending_kept p [] h = tt
ascending_kept p (x ∷ xs) h = go (ascending_kept p xs h.1) (p x)
  where
    go : Ascending (filter p xs) → (t : Bool) → Ascending (cond t (x ∷ filter p xs) (filter p xs))
    go ih true = (all_kept_by p (λ y. x < y) xs h.0, ih)
    go ih false = ih

pub ascending_push : (xs : List ℕ) (x : ℕ) → Ascending xs → AllByRecursion (λ y. y < x) xs → Ascending (xs ++ x ∷ [])
ascending_push [] x h k = (tt, tt)
ascending_push (y ∷ ys) x h k = (all_in (λ z. y < z) (ys ++ x ∷ []) (λ z i. above z (in_append ys (x ∷ []) z i)), ascending_push ys x h.1 k.1)
  where
    above : (z : ℕ) → In ys z ⊎ In (x ∷ []) z → y < z
    above z (inl i) = in_all (λ z. y < z) ys z h.0 i
    above z (inr (inl e)) = subst (λ u. y < u) e k.0
    above z (inr (inr n)) = absurd n

-- ---- labels

-- the list that is ascending and has the labels of what is held is the list of open clusters
pub clusters_same : (hs : List Held) (cs : List ℕ) → Ascending cs → ((h : Held) → In hs h → In cs h.label) → ((c : ℕ) → In cs c → (h : Held) × In hs h × (h.label ≡ c)) → clusters hs ≡ cs
clusters_same hs cs up all some =
    let law = clusters_law hs in
    ascending_same (clusters hs) cs law.oldest_first up
    (λ c i. let r = law.some_held c i in subst (In cs) r.2 (all r.0 r.1))
    (λ c i. let r = some c i in subst (In (clusters hs)) r.2 (law.listed r.0 r.1))

pub is_open : (c : ℕ) (hs : List Held) (h : Held) → In hs h → h.label ≡ c → In (clusters hs) c
is_open c hs h i e = subst (In (clusters hs)) e ((clusters_law hs).listed h i)

pub clusters_others : (c : ℕ) (hs : List Held) → clusters (others c hs) ≡ filter (λ d. not (eqb d c)) (clusters hs)
clusters_others c hs =
    let law = clusters_law hs in
    clusters_same (others c hs) (filter (λ d. not (eqb d c)) (clusters hs)) (ascending_kept _ (clusters hs) law.oldest_first)
    (λ h i. let r = kept_in (λ (h : Held). not (eqb h.label c)) hs h i in in_kept (λ d. not (eqb d c)) (clusters hs) h.label (law.listed h r.0) r.1)
    (λ d i.
    let r = kept_in (λ d. not (eqb d c)) (clusters hs) d i in
    let s = law.some_held d r.0 in
    (s.0, in_kept (λ (h : Held). not (eqb h.label c)) hs s.0 s.1 (ap (λ l. not (eqb l c)) s.2 ∙ r.1), s.2))

pub clusters_push_old : (hs : List Held) (x : Held) → In (clusters hs) x.label → clusters (hs ++ x ∷ []) ≡ clusters hs
clusters_push_old hs x o =
    let law = clusters_law hs in
    clusters_same (hs ++ x ∷ []) (clusters hs) law.oldest_first
    (λ h i. either h (in_append hs (x ∷ []) h i))
    (λ c i. let r = law.some_held c i in (r.0, append_in hs (x ∷ []) r.0 (inl r.1), r.2))
  where
    either : (h : Held) → In hs h ⊎ In (x ∷ []) h → In (clusters hs) h.label
    either h (inl i) = (clusters_law hs).listed h i
    either h (inr (inl e)) = subst (λ (z : Held). In (clusters hs) z.label) e o
    either h (inr (inr n)) = absurd n

pub clusters_push_new : (hs : List Held) (x : Held) → AllByRecursion (λ h. h.label < x.label) hs → clusters (hs ++ x ∷ []) ≡ clusters hs ++ x.label ∷ []
clusters_push_new hs x new =
    let law = clusters_law hs in
    clusters_same (hs ++ x ∷ []) (clusters hs ++ x.label ∷ [])
    (ascending_push (clusters hs) x.label law.oldest_first (all_in (λ c. c < x.label) (clusters hs) (λ c i. let r = law.some_held c i in subst (λ l. l < x.label) r.2 (in_all (λ (h : Held). h.label < x.label) hs r.0 new r.1))))
    (λ h i. listing h (in_append hs (x ∷ []) h i))
    (λ c i. held c (in_append (clusters hs) (x.label ∷ []) c i))
  where
    listing : (h : Held) → In hs h ⊎ In (x ∷ []) h → In (clusters hs ++ x.label ∷ []) h.label
    listing h (inl i) = append_in (clusters hs) (x.label ∷ []) h.label (inl ((clusters_law hs).listed h i))
    listing h (inr (inl e)) = append_in (clusters hs) (x.label ∷ []) h.label (inr (inl (ap (λ (z : Held). z.label) e)))
    listing h (inr (inr n)) = absurd n

    held : (c : ℕ) → In (clusters hs) c ⊎ In (x.label ∷ []) c → (h : Held) × In (hs ++ x ∷ []) h × (h.label ≡ c)
    held c (inl i) = let r = (clusters_law hs).some_held c i in (r.0, append_in hs (x ∷ []) r.0 (inl r.1), r.2)
    held c (inr (inl e)) = (x, append_in hs (x ∷ []) x (inr (inl refl)), e)
    held c (inr (inr n)) = absurd n

pub clusters_merged : (c d : ℕ) (hs : List Held) → (c ≡ d → ⊥) → In (clusters hs) c → clusters (merged c d hs) ≡ filter (λ x. not (eqb x d)) (clusters hs)
clusters_merged c d hs n o =
    let law = clusters_law hs in
    clusters_same (merged c d hs) (filter (λ x. not (eqb x d)) (clusters hs)) (ascending_kept _ (clusters hs) law.oldest_first)
    (λ h i. let r = map_in (moved c d) hs h i in subst (λ (z : Held). In (filter (λ x. not (eqb x d)) (clusters hs)) z.label) r.2 (stays r.0 r.1 (eqb r.0.label d) refl))
    (λ x i.
    let r = kept_in (λ x. not (eqb x d)) (clusters hs) x i in
    let s = law.some_held x r.0 in
    let away : eqb s.0.label d ≡ false = ap (λ l. eqb l d) s.2 ∙ not-true _ r.1 in
    (moved c d s.0, in_map (moved c d) hs s.0 s.1, moved_to c d s.0 false away ∙ s.2))
  where
    stays : (h : Held) → In hs h → (b : Bool) → eqb h.label d ≡ b → In (filter (λ x. not (eqb x d)) (clusters hs)) (moved c d h).label
    stays h i true f = subst (In (filter (λ x. not (eqb x d)) (clusters hs))) (sym (moved_to c d h true f)) (in_kept _ (clusters hs) c o (not_from_false _ (ne_eqb c d n)))
    stays h i false f = subst (In (filter (λ x. not (eqb x d)) (clusters hs))) (sym (moved_to c d h false f)) (in_kept _ (clusters hs) h.label ((clusters_law hs).listed h i) (not_from_false _ f))

-- ---- members

pub members_others : (d c : ℕ) (hs : List Held) → (d ≡ c → ⊥) → members d (others c hs) ≡ members d hs
members_others d c hs n = ap records (kept_by_within (λ (h : Held). not (eqb h.label c)) (λ h. eqb h.label d) (λ h e. not_from_false _ (ne_eqb h.label c (λ f. n (sym (eqb-true _ _ e) ∙ f)))) hs)
