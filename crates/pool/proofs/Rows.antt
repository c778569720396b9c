-- The table beside held records that change.
use Rattle.std.proofs.Common.{◌≡◌, ℕ, zero, suc, ◌+◌, ◌-◌, ◌^◌, ◌<◌, ◌≤◌, min, Bool, true, false, cond, not, eqb, List, [], ◌∷◌, ◌++◌, map, length, get_or, set, filter, sym, refl, ap, ◌∙◌, subst, inl, inr, ⊎_elim, arith, Option, Some, None, is_some, MatchOption, nat_lt}
use Rattle.std.specs.List.{remove, position_or_len, AllByRecursion}
use Rattle.std.proofs.lemmas.List.{map-append, map-id, get_or-map, length-map}
use Rattle.std.proofs.lemmas.Bool.{eq-eqb, ne_eqb, eqb-true, eqb-false, cases_eq, not-true, not_from_false, ltb-false}
use Rattle.std.proofs.lemmas.List.Quantifiers.{position-Some}
use Rattle.std.proofs.lemmas.List.Sums.{fails_before_first}
use Rattle.std.proofs.lemmas.Option.{none-some}
use Rattle.domain.specs.Meaning.{Meaning}
use Rattle.domain.specs.Boxes.{point_box, box_loss}
use Rattle.rules.specs.declared.Entry.{Entry}
use Rattle.rules.specs.declared.Held.{Held}
use Rattle.rules.specs.Choosing.{In, listed}
use Rattle.rules.specs.Laws.{Ascending}
use Rattle.rules.specs.Around.{Fit}
use Rattle.rules.specs.Clusters.{owner, owners, size, values, members, others, clusters, Box, widened, box_of, cost}
use Rattle.rules.specs.Turn.{merged}
use Rattle.rules.proofs.Totals.{in_all, kept_in, in_kept}
use Rattle.rules.proofs.Choices.{clusters_law, merger_law, at_front, member_in, in_member}
use Rattle.rules.proofs.Turns.{members_all}
use Rattle.rules.proofs.Around.{boxes_stand}
use Rattle.rules.proofs.Opened.{ascending_same, is_open, ascending_kept, clusters_others, clusters_push_old, clusters_push_new, clusters_merged, members_others}
use Rattle.pool.specs.declared.Cluster.{Cluster}
use Rattle.pool.specs.Tables.{cluster_of, labels, label_at, table}
use Rattle.pool.specs.Changes.{held_also, label_of, other_rows, opened, with_record, replaced, renewed, union, taken_over}
use Rattle.pool.specs.Places.{place_of, Finds}
use Rattle.pool.proofs.Scans.{size_push, size_le, members_joined, members_same, members_le}

-- ---- lists

module _ {X Y : Type 0} where
  map_same : (f g : X → Y) (xs : List X) → ((x : X) → In xs x → f x ≡ g x) → map f xs ≡ map g xs
  map_same f g [] e = refl
  map_same f g (x ∷ xs) e = let p = e x (inl refl) in let q = map_same f g xs (λ y i. e y (inr i)) in cc

  pub kept_map : (q : Y → Bool) (p : X → Bool) (f : X → Y) (xs : List X) → ((x : X) → q (f x) ≡ p x) → filter q (map f xs) ≡ map f (filter p xs)
  kept_map q p f [] e = refl
  kept_map q p f (x ∷ xs) e = go (q (f x)) (p x) (e x) (kept_map q p f xs e)
    where
      go : (s t : Bool) → s ≡ t → filter q (map f xs) ≡ map f (filter p xs) → cond s (f x ∷ filter q (map f xs)) (filter q (map f xs)) ≡ map f (cond t (x ∷ filter p xs) (filter p xs))
      go true true k ih = ap (λ zs. f x ∷ zs) ih
      go false false k ih = ih
      go true false k ih = let z : ◌≡◌ {A = ℕ} 0 1 = cc in absurd (omega arith)
      go false true k ih = let z : ◌≡◌ {A = ℕ} 0 1 = cc in absurd (omega arith)

pub map_map : {X Y Z : Type 0} (g : Y → Z) (f : X → Y) (xs : List X) → map g (map f xs) ≡ map (λ x. g (f x)) xs
map_map g f [] = refl
map_map g f (x ∷ xs) = ap (λ zs. g (f x) ∷ zs) (map_map g f xs)

pub in_getD : {X : Type 0} (xs : List X) (i : ℕ) (d : X) → i < length xs → In xs (get_or xs i d)
in_getD [] i d l = absurd (omega (arith, l))
in_getD (x ∷ xs) zero d l = inl refl
in_getD (x ∷ xs) (suc i) d l = inr (in_getD xs i d (omega (arith, l)))

-- a row that changes, of rows of which no two have one label
set_map : {Y : Type 0} (f g : ℕ → Y) (cs : List ℕ) (i : ℕ) → Ascending cs → i < length cs → ((d : ℕ) → (d ≡ get_or cs i 0 → ⊥) → g d ≡ f d) → set (map f cs) i (g (get_or cs i 0)) ≡ map g cs
set_map f g [] i up l e = absurd (omega (arith, l))
set_map f g (x ∷ xs) zero up l e = ap (λ zs. g x ∷ zs) (map_same f g xs (λ y i. sym (e y (λ k. omega (arith, k, in_all (λ z. x < z) xs y up.0 i)))))
set_map f g (x ∷ xs) (suc i) up l e =
    let lt : i < length xs = omega (arith, l) in
    let p = e x (λ k. omega (arith, k, in_all (λ z. x < z) xs (get_or xs i 0) up.0 (in_getD xs i 0 lt))) in
    let q = set_map f g xs i up.1 lt e in
    cc

-- ---- labels and members

-- what the table has of a cluster with these members
abbrev row : Meaning → ℕ → List Entry → Cluster
row m c es = record { label = c; size = size es; loss = cost m es; bounds = box_of m es }

row_same : (m : Meaning) (hs ks : List Held) (c : ℕ) → members c ks ≡ members c hs → cluster_of m ks c ≡ cluster_of m hs c
row_same m hs ks c e = ap (row m c) e

members_front : (c : ℕ) (h : Held) (hs : List Held) → members c (h ∷ hs) ≡ cond (eqb h.label c) (h.entry ∷ members c hs) (members c hs)
members_front c h hs = at_front c h hs (eqb h.label c) refl

-- an open cluster has members, and what has members is open
pub open_some : (hs : List Held) (c : ℕ) → In (clusters hs) c → (e : Entry) × In (members c hs) e
open_some hs c i = let r = (clusters_law hs).some_held c i in (r.0.entry, member_in c hs r.0 r.1 r.2)

pub some_open : (hs : List Held) (c : ℕ) (e : Entry) → In (members c hs) e → In (clusters hs) c
some_open hs c e i = let r = in_member c hs e i in is_open c hs r.0 r.1 r.2

some_long : (es : List Entry) (e : Entry) → In es e → 1 ≤ length es
some_long [] e i = absurd i
some_long (x ∷ es) e i = omega arith

pub open_long : (hs : List Held) (c : ℕ) → In (clusters hs) c → 1 ≤ length (members c hs)
open_long hs c i = let r = open_some hs c i in some_long (members c hs) r.0 r.1

members_none : (c : ℕ) (hs : List Held) → AllByRecursion (λ h. h.label < c) hs → members c hs ≡ []
members_none c [] a = refl
members_none c (h ∷ hs) a = members_front c h hs ∙ ap (λ t. cond t (h.entry ∷ members c hs) (members c hs)) (ne_eqb h.label c (λ e. omega (arith, e, a.0))) ∙ members_none c hs a.1

-- ---- a record opens a cluster

pub table_opened : (m : Meaning) (hs : List Held) (e : Entry) → AllByRecursion (λ h. h.label < e.position) hs → table m (held_also e.position e hs) ≡ table m hs ++ opened m e ∷ []
table_opened m hs e a =
    let h : Held = record { entry = e; label = e.position } in
    let ks = hs ++ h ∷ [] in
    let old : (d : ℕ) → In (clusters hs) d → cluster_of m ks d ≡ cluster_of m hs d = λ d i.
    let r = (clusters_law hs).some_held d i in
    row_same m hs ks d (members_same d hs h (λ k. omega (arith, k, r.2, in_all (λ (h : Held). h.label < e.position) hs r.0 a r.1))) in
    ap (map (cluster_of m ks)) (clusters_push_new hs h a) ∙ map-append (cluster_of m ks) (clusters hs) (e.position ∷ [])
    ∙ ap (λ xs. xs ++ cluster_of m ks e.position ∷ []) (map_same (cluster_of m ks) (cluster_of m hs) (clusters hs) old)
    ∙ ap (λ es. table m hs ++ row m e.position es ∷ []) (members_joined e.position hs h refl ∙ ap (λ es. es ++ e ∷ []) (members_none e.position hs a))

pub opened_is : (m : Meaning) (e : Entry) (loss : ℕ) (bounds : Box) → bounds ≡ point_box m (values e) → loss ≡ box_loss m bounds → record { label = e.position; size = 1; loss = loss; bounds = bounds } ≡ opened m e
opened_is m e loss bounds b l = let k = l ∙ ap (box_loss m) b in λ i. record { label = e.position; size = 1; loss = k i; bounds = b i }

-- ---- a record joins one

table_joined : (m : Meaning) (hs : List Held) (i : ℕ) (e : Entry) → i < length (clusters hs) → let c = get_or (clusters hs) i 0 in table m (held_also c e hs) ≡ set (table m hs) i (row m c (members c hs ++ e ∷ []))
table_joined m hs i e l =
    let c = get_or (clusters hs) i 0 in
    let h : Held = record { entry = e; label = c } in
    let ks = hs ++ h ∷ [] in
    ap (map (cluster_of m ks)) (clusters_push_old hs h (in_getD (clusters hs) i 0 l))
    ∙ sym (set_map (cluster_of m hs) (cluster_of m ks) (clusters hs) i (clusters_law hs).oldest_first l (λ d n. row_same m hs ks d (members_same d hs h (λ k. n (sym k)))))
    ∙ ap (λ es. set (table m hs) i (row m c es)) (members_joined c hs h refl)

-- ---- a cluster closes

pub table_closed : (m : Meaning) (c : ℕ) (hs : List Held) → table m (others c hs) ≡ other_rows c (table m hs)
table_closed m c hs =
    let cs = filter (λ d. not (eqb d c)) (clusters hs) in
    ap (map (cluster_of m (others c hs))) (clusters_others c hs)
    ∙ map_same (cluster_of m (others c hs)) (cluster_of m hs) cs (λ d i. row_same m hs (others c hs) d (members_others d c hs (eqb-false _ _ (not-true _ (kept_in (λ d. not (eqb d c)) (clusters hs) d i).1))))
    ∙ sym (kept_map (λ x. not (eqb x.label c)) (λ d. not (eqb d c)) (cluster_of m hs) (clusters hs) (λ _. refl))

pub labels_table : (m : Meaning) (hs : List Held) → labels (table m hs) ≡ clusters hs
labels_table m hs = map_map (λ (x : Cluster). x.label) (cluster_of m hs) (clusters hs) ∙ map-id (clusters hs)

pub length_table : (m : Meaning) (hs : List Held) → length (table m hs) ≡ length (clusters hs)
length_table m hs = length-map (clusters hs) (cluster_of m hs)

-- the row at a place of the table
pub row_at : (m : Meaning) (hs : List Held) (xs : List Cluster) (i : ℕ) (x : Cluster) → xs ≡ table m hs → i < length xs → get_or xs i x ≡ cluster_of m hs (label_at xs i)
row_at m hs xs i x e l =
    ap (λ t. get_or t i x) e ∙ get_or-map (cluster_of m hs) (clusters hs) i 0 x (omega (arith, l, ap length e, length_table m hs))
    ∙ ap (λ cs. cluster_of m hs (get_or cs i 0)) (sym (labels_table m hs) ∙ ap labels (sym e))

pub label_open : (m : Meaning) (hs : List Held) (xs : List Cluster) (i : ℕ) → xs ≡ table m hs → i < length xs → In (clusters hs) (label_at xs i)
label_open m hs xs i e l = subst (λ cs. In (clusters hs) (get_or cs i 0)) (sym (ap labels e ∙ labels_table m hs)) (in_getD (clusters hs) i 0 (omega (arith, l, ap length e, length_table m hs)))

with_row : (m : Meaning) (c : ℕ) (es : List Entry) (e : Entry) (new : Bool) → 1 ≤ length es → length es < 2 ^ 64 - 1 → new ≡ not (listed (owner e) (owners es)) → with_record m (values e) new (row m c es) ≡ row m c (es ++ e ∷ [])
with_row m c es e new some few is =
    let b = boxes_stand.wider m es e some in
    ap (λ t. with_record m (values e) t (row m c es)) is
    ∙ ap (λ n. record { label = c; size = n; loss = box_loss m (widened m (box_of m es) e); bounds = widened m (box_of m es) e }) (count (listed (owner e) (owners es)) (size_push es e))
    ∙ ap (λ t. record { label = c; size = size (es ++ e ∷ []); loss = box_loss m t; bounds = t }) (sym b)
  where
    count : (t : Bool) → size (es ++ e ∷ []) ≡ size es + cond t 0 1 → cond (not t) (min (size es + 1) (2 ^ 64 - 1)) (size es) ≡ size (es ++ e ∷ [])
    count true k = omega (arith, k)
    count false k = omega (arith, k, size_le es, few)

pub joined_table : (m : Meaning) (hs : List Held) (xs : List Cluster) (i : ℕ) (x : Cluster) (e : Entry) (new : Bool) → xs ≡ table m hs → i < length xs → length hs < 2 ^ 64 - 1 → new ≡ not (listed (owner e) (owners (members (label_at xs i) hs))) → set xs i (with_record m (values e) new (get_or xs i x)) ≡ table m (held_also (label_at xs i) e hs)
joined_table m hs xs i x e new is l few n =
    let c = label_at xs i in
    let k = get_or (clusters hs) i 0 in
    let same : c ≡ k = ap (λ cs. get_or cs i 0) (ap labels is ∙ labels_table m hs) in
    ap (λ t. set xs i (with_record m (values e) new t)) (row_at m hs xs i x is l)
    ∙ ap (set xs i) (with_row m c (members c hs) e new (open_long hs c (label_open m hs xs i is l)) (omega (arith, few, members_le c hs)) n)
    ∙ ap (λ d. set xs i (row m d (members d hs ++ e ∷ []))) same
    ∙ ap (λ ys. set ys i (row m k (members k hs ++ e ∷ []))) is
    ∙ sym (table_joined m hs i e (omega (arith, l, ap length is, length_table m hs)))
    ∙ ap (λ d. table m (held_also d e hs)) (sym same)

-- ---- a record leaves

pub members_removed : (hs : List Held) (i : ℕ) (h : Held) (d : ℕ) → ((get_or hs i h).label ≡ d → ⊥) → members d (remove hs i) ≡ members d hs
members_removed [] zero h d n = refl
members_removed [] (suc i) h d n = refl
members_removed (x ∷ hs) zero h d n = sym (members_front d x hs ∙ ap (λ t. cond t (x.entry ∷ members d hs) (members d hs)) (ne_eqb _ _ n))
members_removed (x ∷ hs) (suc i) h d n =
    members_front d x (remove hs i) ∙ ap (λ es. cond (eqb x.label d) (x.entry ∷ es) es) (members_removed hs i h d n) ∙ sym (members_front d x hs)

size_none : (es : List Entry) → size es ≡ 0 → (e : Entry) → In es e → ⊥
size_none [] z e i = i
size_none (x ∷ es) z e i = omega (arith, z)

size_some : (es : List Entry) → (size es ≡ 0 → ⊥) → (e : Entry) × In es e
size_some [] n = absurd (n refl)
size_some (x ∷ es) n = (x, inl refl)

module _ (m : Meaning) (c : ℕ) (hs ks : List Held) (same : (d : ℕ) → (d ≡ c → ⊥) → members d ks ≡ members d hs) where
  -- of the other clusters the same are open
  stays_open : (d : ℕ) → (d ≡ c → ⊥) → In (clusters hs) d → In (clusters ks) d
  stays_open d n i = let r = open_some hs d i in some_open ks d r.0 (subst (λ es. In es r.0) (sym (same d n)) r.1)

  was_open : (d : ℕ) → (d ≡ c → ⊥) → In (clusters ks) d → In (clusters hs) d
  was_open d n i = let r = open_some ks d i in some_open hs d r.0 (subst (λ es. In es r.0) (same d n) r.1)

  other_row : (d : ℕ) → (d ≡ c → ⊥) → cluster_of m ks d ≡ cluster_of m hs d
  other_row d n = row_same m hs ks d (same d n)

  -- the last member has left
  table_less : size (members c ks) ≡ 0 → table m ks ≡ other_rows c (table m hs)
  table_less z =
      let cs = filter (λ d. not (eqb d c)) (clusters hs) in
      let other : (d : ℕ) → In cs d → d ≡ c → ⊥ = λ d i. eqb-false _ _ (not-true _ (kept_in (λ d. not (eqb d c)) (clusters hs) d i).1) in
      let gone : (d : ℕ) → In (clusters ks) d → d ≡ c → ⊥ = λ d i e. let r = open_some ks d i in size_none (members c ks) z r.0 (subst (λ x. In (members x ks) r.0) e r.1) in
      ap (map (cluster_of m ks)) (ascending_same (clusters ks) cs (clusters_law ks).oldest_first (ascending_kept _ (clusters hs) (clusters_law hs).oldest_first)
      (λ d i. in_kept (λ d. not (eqb d c)) (clusters hs) d (was_open d (gone d i) i) (not_from_false _ (ne_eqb d c (gone d i))))
      (λ d i. stays_open d (other d i) (kept_in (λ d. not (eqb d c)) (clusters hs) d i).0))
      ∙ map_same (cluster_of m ks) (cluster_of m hs) cs (λ d i. other_row d (other d i))
      ∙ sym (kept_map (λ x. not (eqb x.label c)) (λ d. not (eqb d c)) (cluster_of m hs) (clusters hs) (λ _. refl))

  -- some stay
  table_stays : In (clusters hs) c → (size (members c ks) ≡ 0 → ⊥) → table m ks ≡ map (replaced (cluster_of m ks c)) (table m hs)
  table_stays o n =
      let still : In (clusters ks) c = let r = size_some (members c ks) n in some_open ks c r.0 r.1 in
      ap (map (cluster_of m ks)) (ascending_same (clusters ks) (clusters hs) (clusters_law ks).oldest_first (clusters_law hs).oldest_first
      (λ d i. ⊎_elim (λ e. subst (In (clusters hs)) (sym e) o) (λ k. was_open d k i) (cases_eq d c))
      (λ d i. ⊎_elim (λ e. subst (In (clusters ks)) (sym e) still) (λ k. stays_open d k i) (cases_eq d c)))
      ∙ map_same (cluster_of m ks) (λ d. replaced (cluster_of m ks c) (cluster_of m hs d)) (clusters hs) (λ d i. ⊎_elim (here d) (λ k. there d k) (cases_eq d c))
      ∙ sym (map_map (replaced (cluster_of m ks c)) (cluster_of m hs) (clusters hs))
    where
      here : (d : ℕ) → d ≡ c → cluster_of m ks d ≡ cond (eqb d c) (cluster_of m ks c) (cluster_of m hs d)
      here d e = ap (cluster_of m ks) e ∙ ap (λ t. cond t (cluster_of m ks c) (cluster_of m hs d)) (sym (eq-eqb d c e))

      there : (d : ℕ) → (d ≡ c → ⊥) → cluster_of m ks d ≡ cond (eqb d c) (cluster_of m ks c) (cluster_of m hs d)
      there d k = other_row d k ∙ ap (λ t. cond t (cluster_of m ks c) (cluster_of m hs d)) (sym (ne_eqb d c k))

  pub renewed_table : In (clusters hs) c → renewed m ks c (table m hs) ≡ table m ks
  renewed_table o = sym (go (eqb (size (members c ks)) 0) refl)
    where
      go : (b : Bool) → eqb (size (members c ks)) 0 ≡ b → table m ks ≡ cond b (other_rows c (table m hs)) (map (replaced (cluster_of m ks c)) (table m hs))
      go true z = table_less (eqb-true _ _ z)
      go false z = table_stays o (eqb-false _ _ z)

-- ---- a cluster takes over another

module _ (m : Meaning) (c e : ℕ) (hs : List Held) (n : c ≡ e → ⊥) (o : In (clusters hs) c) where
  table_merged : other_rows e (map (replaced (cluster_of m (merged c e hs) c)) (table m hs)) ≡ table m (merged c e hs)
  table_merged =
      let ks = merged c e hs in
      let g : ℕ → Cluster = λ d. replaced (cluster_of m ks c) (cluster_of m hs d) in
      ap (other_rows e) (map_map (replaced (cluster_of m ks c)) (cluster_of m hs) (clusters hs))
      ∙ kept_map (λ x. not (eqb x.label e)) (λ d. not (eqb d e)) g (clusters hs) (λ d. ap (λ t. not (eqb t e)) (stays d (eqb d c) refl))
      ∙ map_same g (cluster_of m ks) (filter (λ d. not (eqb d e)) (clusters hs)) (λ d i. at d (eqb-false _ _ (not-true _ (kept_in (λ d. not (eqb d e)) (clusters hs) d i).1)) (eqb d c) refl)
      ∙ ap (map (cluster_of m ks)) (sym (clusters_merged c e hs n o))
    where
      stays : (d : ℕ) (b : Bool) → eqb d c ≡ b → (replaced (cluster_of m (merged c e hs) c) (cluster_of m hs d)).label ≡ d
      stays d true f = ap (λ t. (cond t (cluster_of m (merged c e hs) c) (cluster_of m hs d)).label) f ∙ sym (eqb-true d c f)
      stays d false f = ap (λ t. (cond t (cluster_of m (merged c e hs) c) (cluster_of m hs d)).label) f

      at : (d : ℕ) → (d ≡ e → ⊥) → (b : Bool) → eqb d c ≡ b → replaced (cluster_of m (merged c e hs) c) (cluster_of m hs d) ≡ cluster_of m (merged c e hs) d
      at d k true f = ap (λ t. cond t (cluster_of m (merged c e hs) c) (cluster_of m hs d)) f ∙ ap (cluster_of m (merged c e hs)) (sym (eqb-true d c f))
      at d k false f = ap (λ t. cond t (cluster_of m (merged c e hs) c) (cluster_of m hs d)) f ∙ sym (row_same m hs (merged c e hs) d ((merger_law c e hs).no_other d (eqb-false d c f) k))

  -- the row of the cluster that takes over
  union_is : In (clusters hs) e → AllByRecursion (λ h. Fit m h.entry) hs → union m hs (cluster_of m hs c) (cluster_of m hs e) ≡ cluster_of m (merged c e hs) c
  union_is q a =
      let b = sym (boxes_stand.joined m (members c hs) (members e hs) (members c (merged c e hs)) (open_long hs c o) (open_long hs e q) (members_all (Fit m) c hs a) (members_all (Fit m) e hs a) (merger_law c e hs).takes) in
      ap (λ t. record { label = c; size = size (members c (merged c e hs)); loss = box_loss m t; bounds = t }) b

  merged_table : In (clusters hs) e → AllByRecursion (λ h. Fit m h.entry) hs → taken_over m hs (cluster_of m hs c) (cluster_of m hs e) (table m hs) ≡ table m (merged c e hs)
  merged_table q a = ap (λ t. other_rows e (map (replaced t) (table m hs))) (union_is q a) ∙ table_merged

-- ---- the held record at a place

pub label_of_at : (hs : List Held) (i : ℕ) (h : Held) → i < length hs → h ≡ get_or hs i h → h.label ≡ label_of hs i
label_of_at hs i h l e = ap (λ (x : Held). x.label) e ∙ sym (get_or-map (λ (x : Held). x.label) hs i h 0 l)

pub left_table : (m : Meaning) (hs : List Held) (i : ℕ) → i < length hs → renewed m (remove hs i) (label_of hs i) (table m hs) ≡ table m (remove hs i)
left_table m [] i l = absurd (omega (arith, l))
left_table m (x ∷ hs) i l =
    let ks = x ∷ hs in
    let e = get_or-map (λ (x : Held). x.label) ks i x 0 l in
    renewed_table m (label_of ks i) ks (remove ks i) (λ d n. members_removed ks i x d (λ k. n (sym k ∙ sym e))) (is_open (label_of ks i) ks (get_or ks i x) (in_getD ks i x l) (sym e))

-- ---- two places of the table

pub label_at_is : (xs : List Cluster) (i : ℕ) (x : Cluster) → i < length xs → x ≡ get_or xs i x → x.label ≡ label_at xs i
label_at_is xs i x l e = ap (λ (y : Cluster). y.label) e ∙ sym (get_or-map (λ (y : Cluster). y.label) xs i x 0 l)

pub labels_apart : (cs : List ℕ) (i j : ℕ) → Ascending cs → i < length cs → j < length cs → (i ≡ j → ⊥) → get_or cs i 0 ≡ get_or cs j 0 → ⊥
labels_apart [] i j up l k n e = omega (arith, l)
labels_apart (x ∷ xs) zero zero up l k n e = n refl
labels_apart (x ∷ xs) zero (suc j) up l k n e = omega (arith, e, in_all (λ z. x < z) xs (get_or xs j 0) up.0 (in_getD xs j 0 (omega (arith, k))))
labels_apart (x ∷ xs) (suc i) zero up l k n e = omega (arith, e, in_all (λ z. x < z) xs (get_or xs i 0) up.0 (in_getD xs i 0 (omega (arith, l))))
labels_apart (x ∷ xs) (suc i) (suc j) up l k n e = labels_apart xs i j up.1 (omega (arith, l)) (omega (arith, k)) (λ s. n (ap suc s)) e

module _ (m : Meaning) (hs : List Held) (xs : List Cluster) (is : xs ≡ table m hs) where
  row_is : (i : ℕ) (x : Cluster) → i < length xs → x ≡ get_or xs i x → x ≡ cluster_of m hs x.label
  row_is i x l e = e ∙ row_at m hs xs i x is l ∙ ap (cluster_of m hs) (sym (label_at_is xs i x l e))

  row_open : (i : ℕ) (x : Cluster) → i < length xs → x ≡ get_or xs i x → In (clusters hs) x.label
  row_open i x l e = subst (In (clusters hs)) (sym (label_at_is xs i x l e)) (label_open m hs xs i is l)

  rows_apart : (i j : ℕ) (x y : Cluster) → i < length xs → j < length xs → (i ≡ j → ⊥) → x ≡ get_or xs i x → y ≡ get_or xs j y → x.label ≡ y.label → ⊥
  rows_apart i j x y l k n e f same =
      let ls = ap labels is ∙ labels_table m hs in
      let long = ap length is ∙ length_table m hs in
      labels_apart (clusters hs) i j (clusters_law hs).oldest_first (omega (arith, l, long)) (omega (arith, k, long)) n
      (ap (λ cs. get_or cs i 0) (sym ls) ∙ sym (label_at_is xs i x l e) ∙ same ∙ label_at_is xs j y k f ∙ ap (λ cs. get_or cs j 0) ls)

  pub taken_over_table : (i j : ℕ) (x y : Cluster) → i < length xs → j < length xs → (i ≡ j → ⊥) → x ≡ get_or xs i x → y ≡ get_or xs j y → AllByRecursion (λ h. Fit m h.entry) hs → taken_over m hs x y xs ≡ table m (merged x.label y.label hs)
  taken_over_table i j x y l k n e f a =
      ap (λ z. taken_over m hs z y xs) (row_is i x l e) ∙ ap (λ z. taken_over m hs (cluster_of m hs x.label) z xs) (row_is j y k f) ∙ ap (taken_over m hs (cluster_of m hs x.label) (cluster_of m hs y.label)) is
      ∙ merged_table m x.label y.label hs (rows_apart i j x y l k n e f) (row_open i x l e) (row_open j y k f) a

-- ---- the place of a label

listed_place : (xs : List ℕ) (x : ℕ) → In xs x → (i : ℕ) × (i < length xs) × (get_or xs i 0 ≡ x)
listed_place [] x i = absurd i
listed_place (y ∷ ys) x i = ⊎_elim {C = (i : ℕ) × (i < length (y ∷ ys)) × (get_or (y ∷ ys) i 0 ≡ x)}
    (λ e. (0, omega arith, e))
    (λ j. let r = listed_place ys x j in (suc r.0, omega (arith, r.1), r.2))
    i

-- a row of no cluster
abbrev pub blank : Cluster
blank = record { label = 0; size = 0; loss = 0; bounds = [] }

module _ (c : ℕ) (xs : List Cluster) where
  abbrev pub labelled : Cluster → Bool
  labelled x = eqb x.label c

  misses : (i : ℕ) → i < length xs → labelled (get_or xs i blank) ≡ false → label_at xs i ≡ c → ⊥
  misses i l f e = eqb-false _ _ f (sym (get_or-map (λ (y : Cluster). y.label) xs i blank 0 l) ∙ e)

  pub finds : (r : Option ℕ) → r ≡ place_of c xs → Finds xs c r
  finds (Some i) e =
      let f = position-Some labelled xs i blank (sym e) in
      record {
        within = f.0;
        labelled = get_or-map (λ (y : Cluster). y.label) xs i blank 0 f.0 ∙ eqb-true _ _ f.1;
        none_ahead = λ k l. misses k (omega (arith, l, f.0)) (f.2 k l);
      }
  finds None e = λ k l. misses k l (fails_before_first labelled xs k blank (omega (arith, l, none (nat_lt (position_or_len labelled xs) (length xs)) refl (sym e))))
    where
      none : (b : Bool) → nat_lt (position_or_len labelled xs) (length xs) ≡ b → cond b (Some (position_or_len labelled xs)) None ≡ None → length xs ≤ position_or_len labelled xs
      none true t z = absurd (none-some _ (sym z))
      none false t z = ltb-false _ _ t

  -- a label of the table is found
  pub found : (r : Option ℕ) → Finds xs c r → In (labels xs) c → MatchOption r ⊥ (λ i. (i < length xs) × (label_at xs i ≡ c))
  found (Some i) f o = (f.within, f.labelled)
  found None f o = let k = listed_place (labels xs) c o in f k.0 (omega (arith, k.1, length-map xs (λ (y : Cluster). y.label))) k.2

  pub held_found : (m : Meaning) (hs : List Held) (h : Held) (r : Option ℕ) → Finds xs c r → xs ≡ table m hs → In hs h → h.label ≡ c → is_some r ≡ true
  held_found m hs h (Some i) f t o e = refl
  held_found m hs h None f t o e = absurd (found None f (subst (In (labels xs)) e (subst (λ cs. In cs h.label) (sym (ap labels t ∙ labels_table m hs)) ((clusters_law hs).listed h o))))
