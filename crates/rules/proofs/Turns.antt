-- What a turn does to the held records: each stays or is written, once, and its own is written.
use Rattle.std.proofs.Common.{◌≡◌, ℕ, zero, suc, ◌+◌, ◌≤◌, Bool, true, false, cond, not, eqb, leb, List, [], ◌∷◌, map, length, Some, None, fold, filter, Option, sym, refl, ap, ◌∙◌, subst, arith}
use Rattle.std.specs.List.{AllByRecursion}
use Rattle.std.proofs.ByRecursion.{all_kept_by, All-append, All-map}
use Rattle.std.proofs.lemmas.Bool.{eqb-true, eq-eqb, leb-true, cond_both, cond-true}
use Rattle.domain.specs.Meaning.{Meaning}
use Rattle.release.specs.declared.Settings.{Settings}
use Rattle.release.specs.declared.Line.{Line}
use Rattle.release.specs.declared.Manner.{Manner}
use Rattle.release.specs.declared.Manner.TheVariants.{Released, Reused, Suppressed}
use Rattle.rules.specs.declared.Entry.{Entry}
use Rattle.rules.specs.declared.Held.{Held}
use Rattle.rules.specs.Choosing.{In, total, head, minimal, different}
use Rattle.rules.specs.Clusters.{Box, size, records, members, others, by_age, clusters, box_of, no_box, raise}
use Rattle.rules.specs.States.{State, crowd}
use Rattle.rules.specs.Split.{parts}
use Rattle.rules.specs.Release.{line, Output, release_part, release}
use Rattle.rules.specs.Turn.{Rule, large, covered, outnumbered, too_few, joining, without, easiest, moved, merged, if_any, take_over, grown, applied}
use Rattle.rules.specs.Promise.{one, held_times, line_times, Writes}
use Rattle.rules.proofs.Totals.{mark, one_self, total_append, total_same, total_le, total_kept, kept_both, kept_le, total_map, total_in_order, length_in_order, length_total, marked_once, in_total, in_all, Picked, head_is, kept_in}
use Rattle.rules.proofs.Numbers.{in_times, listed_le, times_different, minimal_some}
use Rattle.rules.proofs.Parts.{totals, parts_total, parts_all}

-- by positions
abbrev pub held_total : (ℕ → ℕ) → List Held → ℕ
held_total f hs = total (λ r. f r.entry.position) hs

abbrev pub line_total : (ℕ → ℕ) → List Line → ℕ
line_total f ls = total (λ l. f l.position) ls

abbrev pub entry_total : (ℕ → ℕ) → List Entry → ℕ
entry_total f es = total (λ e. f e.position) es

-- ---- release

released_total : (f : ℕ → ℕ) (m : Meaning) (g : Settings) (ps : List (List Entry)) (o : Output) → line_total f (fold (release_part m g) o ps).lines ≡ line_total f o.lines + totals (λ e. f e.position) ps
released_total f m g [] o = omega arith
released_total f m g (p ∷ ps) o =
    let number = o.boxes.made + 1 in
    let b = box_of m p in
    omega (arith, released_total f m g ps (release_part m g o p), total_append (λ l. f l.position) o.lines (map (λ e. line e Released number b) p), total_map (λ (l : Line). f l.position) (λ e. line e Released number b) p)

release_total : (f : ℕ → ℕ) (m : Meaning) (g : Settings) (s : State) (c : ℕ) → 1 ≤ g.k → line_total f (release m g s c).lines ≡ entry_total f (members c s.held)
release_total f m g s c k =
    omega (arith, released_total f m g (parts m (crowd g s) (members c s.held)) (record { lines = []; boxes = s.boxes }), parts_total (λ e. f e.position) m (crowd g s) (members c s.held) k)

members_total : (f : Entry → ℕ) (c : ℕ) (hs : List Held) → total f (members c hs) ≡ total (λ h. f h.entry) (filter (λ h. eqb h.label c) hs)
members_total f c hs = total_map f (λ (h : Held). h.entry) (filter (λ h. eqb h.label c) hs)

release_keeps : (f : ℕ → ℕ) (m : Meaning) (g : Settings) (s : State) (c : ℕ) → 1 ≤ g.k → held_total f (release m g s c).after.held + line_total f (release m g s c).lines ≡ held_total f s.held
release_keeps f m g s c k =
    omega (arith, release_total f m g s c k, members_total (λ e. f e.position) c s.held, kept_both (λ (r : Held). f r.entry.position) (λ h. eqb h.label c) s.held)

own_member : (t : Held) (hs : List Held) → In hs t → 1 ≤ entry_total (one t.entry.position) (members t.label hs)
own_member t hs i =
    let p = t.entry.position in
    let w : Held → ℕ = λ h. cond (eqb h.label t.label) (one p h.entry.position) 0 in
    let here : w t ≡ 1 = ap {B = ℕ} (λ b. cond b (one p p) 0) (eq-eqb t.label t.label refl) ∙ one_self p in
    omega (arith, members_total (λ e. one p e.position) t.label hs, total_kept (λ (h : Held). one p h.entry.position) (λ h. eqb h.label t.label) hs, in_total w hs t i, here)

-- ---- taking over changes labels alone, and leaves the members in

pub moved_entry : (c d : ℕ) (h : Held) → (moved c d h).entry ≡ h.entry
moved_entry c d h = cond_both (eqb h.label d) (record { entry = h.entry; label = c }) h (λ x. x.entry ≡ h.entry) (λ _. refl) (λ _. refl)

pub merged_records : (c d : ℕ) (hs : List Held) → records (merged c d hs) ≡ records hs
merged_records c d [] = refl
merged_records c d (h ∷ hs) = ap (λ e. e ∷ records (merged c d hs)) (moved_entry c d h) ∙ ap (λ es. h.entry ∷ es) (merged_records c d hs)

-- a member of c stays one
moved_label : (c d : ℕ) (h : Held) → eqb h.label c ≡ true → eqb (moved c d h).label c ≡ true
moved_label c d h e = cond_both (eqb h.label d) (record { entry = h.entry; label = c }) h (λ x. eqb x.label c ≡ true) (λ _. eq-eqb c c refl) (λ _. e)

merged_members : (f : Entry → ℕ) (c d : ℕ) (hs : List Held) → total f (members c hs) ≤ total f (members c (merged c d hs))
merged_members f c d hs =
    omega (
      arith,
      members_total f c hs,
      members_total f c (merged c d hs),
      total_kept (λ (h : Held). f h.entry) (λ h. eqb h.label c) hs,
      total_kept (λ (h : Held). f h.entry) (λ h. eqb h.label c) (merged c d hs),
      total_map (λ (h : Held). cond (eqb h.label c) (f h.entry) 0) (moved c d) hs,
      total_le (λ (h : Held). cond (eqb h.label c) (f h.entry) 0) (λ h. cond (eqb (moved c d h).label c) (f (moved c d h).entry) 0) more hs,
    )
  where
    more : (h : Held) → cond (eqb h.label c) (f h.entry) 0 ≤ cond (eqb (moved c d h).label c) (f (moved c d h).entry) 0
    more h = go (eqb h.label c) refl
      where
        go : (b : Bool) → eqb h.label c ≡ b → cond b (f h.entry) 0 ≤ cond (eqb (moved c d h).label c) (f (moved c d h).entry) 0
        go true e =
            let x : cond (eqb (moved c d h).label c) (f (moved c d h).entry) 0 ≡ f (moved c d h).entry = cond-true (eqb (moved c d h).label c) (f (moved c d h).entry) 0 (moved_label c d h e) in
            omega (arith, x, ap f (moved_entry c d h))
        go false e = omega arith

-- what each merger keeps, taking over keeps
pub take_over_keeps : (P : List Held → Type 0) (m : Meaning) (k n c : ℕ) → ((hs : List Held) (d : ℕ) → P hs → P (merged c d hs)) → (hs : List Held) → P hs → P (take_over m k n c hs)
take_over_keeps P m k zero c keep hs p = p
take_over_keeps P m k (suc n) c keep hs p =
    cond_both (leb k (size (members c hs))) hs (if_any hs (easiest m c hs) (λ d. take_over m k n c (merged c d hs))) P (λ _. p)
    (λ _. go (easiest m c hs) (λ d. take_over_keeps P m k n c keep (merged c d hs) (keep hs d p)))
  where
    go : (o : Option ℕ) → ((d : ℕ) → P (take_over m k n c (merged c d hs))) → P (if_any hs o (λ d. take_over m k n c (merged c d hs)))
    go None ih = p
    go (Some d) ih = ih d

pub take_over_records : (m : Meaning) (k n c : ℕ) (hs : List Held) → records (take_over m k n c hs) ≡ records hs
take_over_records m k n c hs = take_over_keeps (λ xs. records xs ≡ records hs) m k n c (λ xs d e. merged_records c d xs ∙ e) hs refl

take_over_members : (f : Entry → ℕ) (m : Meaning) (k n c : ℕ) (hs : List Held) → total f (members c hs) ≤ total f (members c (take_over m k n c hs))
take_over_members f m k n c hs = take_over_keeps (λ xs. total f (members c hs) ≤ total f (members c xs)) m k n c (λ xs d l. omega (arith, l, merged_members f c d xs)) hs (omega arith)

held_records : (f : ℕ → ℕ) (hs : List Held) → entry_total f (records hs) ≡ held_total f hs
held_records f hs = total_map (λ (e : Entry). f e.position) (λ (h : Held). h.entry) hs

-- ---- and ends with a crowd

alone : (c : ℕ) (hs : List Held) → length (others c hs) ≤ 0 → members c hs ≡ records hs
alone c [] l = refl
alone c (h ∷ hs) l = go (eqb h.label c) l (alone c hs)
  where
    go : (b : Bool) → length (cond (not b) (h ∷ others c hs) (others c hs)) ≤ 0 → (length (others c hs) ≤ 0 → members c hs ≡ records hs) → records (cond b (h ∷ filter (λ h. eqb h.label c) hs) (filter (λ h. eqb h.label c) hs)) ≡ h.entry ∷ records hs
    go true l ih = ap (λ es. h.entry ∷ es) (ih l)
    go false l ih = absurd (omega (arith, l))

-- how many are held under a label
abbrev pub under : ℕ → List Held → ℕ
under d hs = total (λ h. one d h.label) hs

merged_others : (c d : ℕ) (hs : List Held) → length (others c (merged c d hs)) + under d (others c hs) ≡ length (others c hs)
merged_others c d [] = refl
merged_others c d (h ∷ hs) = go (eqb h.label d) refl (eqb h.label c) refl (merged_others c d hs)
  where
    at : (t a : Bool) (x : Held) → t ≡ a → length (cond (not t) (x ∷ others c (merged c d hs)) (others c (merged c d hs))) ≡ length (cond (not a) (x ∷ others c (merged c d hs)) (others c (merged c d hs)))
    at t a x e = ap {B = ℕ} (λ z. length (cond (not z) (x ∷ others c (merged c d hs)) (others c (merged c d hs)))) e

    go : (b : Bool) → eqb h.label d ≡ b → (a : Bool) → eqb h.label c ≡ a → length (others c (merged c d hs)) + under d (others c hs) ≡ length (others c hs)
        → length (cond (not (eqb (cond b (record { entry = h.entry; label = c }) h).label c)) (cond b (record { entry = h.entry; label = c }) h ∷ others c (merged c d hs)) (others c (merged c d hs))) + under d (cond (not a) (h ∷ others c hs) (others c hs)) ≡ length (cond (not a) (h ∷ others c hs) (others c hs))
    go true e true f ih = omega (arith, ih, at (eqb c c) true (record { entry = h.entry; label = c }) (eq-eqb c c refl))
    go true e false f ih = omega (arith, ih, at (eqb c c) true (record { entry = h.entry; label = c }) (eq-eqb c c refl), mark e)
    go false e true f ih = omega (arith, ih, at (eqb h.label c) true h f)
    go false e false f ih = omega (arith, ih, at (eqb h.label c) false h f, mark e)

pub cluster_in : (d : ℕ) (hs : List Held) → In (clusters hs) d → 1 ≤ under d hs
cluster_in d hs i =
    omega (arith, in_times d (clusters hs) i, total_in_order (one d) by_age (different (map (λ (h : Held). h.label) hs)), times_different d (map (λ (h : Held). h.label) hs), listed_le d (map (λ (h : Held). h.label) hs), total_map (one d) (λ (h : Held). h.label) hs)

no_clusters : (hs : List Held) → length (clusters hs) ≤ 0 → length hs ≤ 0
no_clusters [] l = omega arith
no_clusters (h ∷ hs) l = absurd (omega (arith, l, length_in_order by_age (different (map (λ (h : Held). h.label) (h ∷ hs)))))

-- the one that joins is open
abbrev Easy : ℕ → List Held → Option ℕ → Type 0
Easy c hs (Some d) = 1 ≤ under d (others c hs)
Easy c hs None = length (others c hs) ≤ 0

easiest_is : (m : Meaning) (c : ℕ) (hs : List Held) → Easy c hs (easiest m c hs)
easiest_is m c hs = go (head (minimal key open')) (head_is (minimal key open'))
  where
    key : ℕ → ℕ
    key d = raise m (members c hs) (members d hs)

    open' : List ℕ
    open' = clusters (others c hs)

    go : (o : Option ℕ) → Picked (minimal (λ d. raise m (members c hs) (members d hs)) (clusters (others c hs))) o → Easy c hs o
    go (Some d) i = cluster_in d (others c hs) (kept_in _ (clusters (others c hs)) d i).0
    go None l = no_clusters (others c hs) (minimal_some _ (clusters (others c hs)) l)

pub take_over_large : (m : Meaning) (k n c : ℕ) (hs : List Held) → k ≤ size (records hs) → length (others c hs) ≤ n → k ≤ size (members c (take_over m k n c hs))
take_over_large m k zero c hs a l = subst (λ es. k ≤ size es) (sym (alone c hs l)) a
take_over_large m k (suc n) c hs a l =
    cond_both (leb k (size (members c hs))) hs (if_any hs (easiest m c hs) (λ d. take_over m k n c (merged c d hs))) (λ xs. k ≤ size (members c xs)) (λ e. leb-true k (size (members c hs)) e)
    (λ _. go (easiest m c hs) (easiest_is m c hs) (λ d. take_over_large m k n c (merged c d hs)))
  where
    go : (o : Option ℕ) → Easy c hs o → ((d : ℕ) → k ≤ size (records (merged c d hs)) → length (others c (merged c d hs)) ≤ n → k ≤ size (members c (take_over m k n c (merged c d hs)))) → k ≤ size (members c (if_any hs o (λ d. take_over m k n c (merged c d hs))))
    go None f ih = subst (λ es. k ≤ size es) (sym (alone c hs f)) a
    go (Some d) f ih = ih d (subst (λ es. k ≤ size es) (sym (merged_records c d hs)) a) (omega (arith, merged_others c d hs, f, l))

-- after rule 5, the cluster names a crowd
pub grown_large : (m : Meaning) (g : Settings) (s : State) (c : ℕ) → crowd g s ≤ size (records s.held) → crowd g s ≤ size (members c (grown m g s c).held)
grown_large m g s c l = take_over_large m (crowd g s) (length s.held) c s.held l
    (omega (arith, kept_le (λ _. 1) (λ h. not (eqb h.label c)) s.held, length_total (others c s.held), length_total s.held))

-- ---- leaving

leave_total : (f : ℕ → ℕ) (t : Held) (hs : List Held) → In hs t → held_times t.entry.position hs ≤ 1 → held_total f (without t hs) + f t.entry.position ≡ held_total f hs
leave_total f t hs i u =
    let p = t.entry.position in
    let q : Held → Bool = λ h. eqb h.entry.position p in
    let F : Held → ℕ = λ r. f r.entry.position in
    let exact : held_times p hs ≡ 1 = omega (arith, u, in_total (λ (r : Held). one p r.entry.position) hs t i, one_self p) in
    omega (arith, kept_both F q hs, total_kept F q hs, total_same (λ h. cond (q h) (F h) 0) (λ h. cond (q h) (f p) 0) (λ h. same (q h) h.entry.position p (eqb-true h.entry.position p)) hs, marked_once q (f p) hs exact)
  where
    same : (b : Bool) (a p : ℕ) → (b ≡ true → a ≡ p) → cond b (f a) 0 ≡ cond b (f p) 0
    same true a p e = ap f (e refl)
    same false a p e = refl

-- ---- a turn

pub applied_total : (f : ℕ → ℕ) (m : Meaning) (g : Settings) (s : State) (t : Held) (r : Rule) → 1 ≤ g.k → In s.held t → held_times t.entry.position s.held ≤ 1
    → held_total f (applied m g s t r).after.held + line_total f (applied m g s t r).lines ≡ held_total f s.held
applied_total f m g s t large k i u = release_keeps f m g s t.label k
applied_total f m g s t (covered b) k i u = omega (arith, leave_total f t s.held i u)
applied_total f m g s t outnumbered k i u = omega (arith, leave_total f t s.held i u)
applied_total f m g s t too_few k i u = omega (arith, leave_total f t s.held i u)
applied_total f m g s t joining k i u =
    let s' = grown m g s t.label in
    release_keeps f m g s' t.label k ∙ sym (held_records f s'.held) ∙ ap (entry_total f) (take_over_records m (crowd g s) (length s.held) t.label s.held) ∙ held_records f s.held

pub applied_own : (m : Meaning) (g : Settings) (s : State) (t : Held) (r : Rule) → 1 ≤ g.k → In s.held t → 1 ≤ line_times t.entry.position (applied m g s t r).lines
applied_own m g s t large k i = omega (arith, release_total (one t.entry.position) m g s t.label k, own_member t s.held i)
applied_own m g s t (covered b) k i = omega (arith, one_self t.entry.position)
applied_own m g s t outnumbered k i = omega (arith, one_self t.entry.position)
applied_own m g s t too_few k i = omega (arith, one_self t.entry.position)
applied_own m g s t joining k i =
    omega (arith, release_total (one t.entry.position) m g (grown m g s t.label) t.label k, take_over_members (λ e. one t.entry.position e.position) m (crowd g s) (length s.held) t.label s.held, own_member t s.held i)

pub applied_same : (m : Meaning) (g : Settings) (s : State) (t : Held) (r : Rule) → ((applied m g s t r).after.accepted ≡ s.accepted) × ((applied m g s t r).after.closed ≡ s.closed)
applied_same m g s t large = (refl, refl)
applied_same m g s t (covered b) = (refl, refl)
applied_same m g s t outnumbered = (refl, refl)
applied_same m g s t too_few = (refl, refl)
applied_same m g s t joining = (refl, refl)

-- what holds of each held record holds of those that stay and of those that are written
abbrev pub Of : (Entry → Type 0) → Line → Type 0
Of P l = (e : Entry) × P e × Writes l e

abbrev pub Holds : (Entry → Type 0) → List Held → Type 0
Holds P hs = AllByRecursion (λ r. P r.entry) hs

released_all : (P : Entry → Type 0) (m : Meaning) (g : Settings) (ps : List (List Entry)) (o : Output) → AllByRecursion (AllByRecursion P) ps → AllByRecursion (Of P) o.lines → AllByRecursion (Of P) (fold (release_part m g) o ps).lines
released_all P m g [] o a b = b
released_all P m g (p ∷ ps) o a b =
    let number = o.boxes.made + 1 in
    let bx = box_of m p in
    released_all P m g ps (release_part m g o p) a.1 (All-append (Of P) o.lines (map (λ e. line e Released number bx) p) b (All-map (Of P) (λ e. line e Released number bx) p (lines p a.0)))
  where
    lines : (es : List Entry) → AllByRecursion P es → AllByRecursion (λ e. Of P (line e Released (o.boxes.made + 1) (box_of m p))) es
    lines [] a = tt
    lines (e ∷ es) a = ((e, a.0, (refl, refl)), lines es a.1)

pub all_records : (P : Entry → Type 0) (hs : List Held) → Holds P hs → AllByRecursion P (records hs)
all_records P hs a = All-map P (λ (h : Held). h.entry) hs a

all_held : (P : Entry → Type 0) (hs : List Held) → AllByRecursion P (records hs) → Holds P hs
all_held P [] a = tt
all_held P (h ∷ hs) a = (a.0, all_held P hs a.1)

-- taking over loses and makes up no record
pub grown_holds : (P : Entry → Type 0) (m : Meaning) (g : Settings) (s : State) (c : ℕ) → Holds P s.held → Holds P (grown m g s c).held
grown_holds P m g s c a = all_held P (grown m g s c).held (subst (AllByRecursion P) (sym (take_over_records m (crowd g s) (length s.held) c s.held)) (all_records P s.held a))

pub members_all : (P : Entry → Type 0) (c : ℕ) (hs : List Held) → Holds P hs → AllByRecursion P (members c hs)
members_all P c hs a = all_records P _ (all_kept_by (λ h. eqb h.label c) (λ r. P r.entry) hs a)

release_all : (P : Entry → Type 0) (m : Meaning) (g : Settings) (s : State) (c : ℕ) → Holds P s.held → Holds P (release m g s c).after.held × AllByRecursion (Of P) (release m g s c).lines
release_all P m g s c a = (
  all_kept_by (λ h. not (eqb h.label c)) (λ r. P r.entry) s.held a,
  released_all P m g (parts m (crowd g s) (members c s.held)) (record { lines = []; boxes = s.boxes }) (parts_all P m (crowd g s) (members c s.held) (members_all P c s.held a)) tt,
)

leave_all : (P : Entry → Type 0) (hs : List Held) (t : Held) (how : Manner) (number : ℕ) (b : Box) → In hs t → Holds P hs → Holds P (without t hs) × AllByRecursion (Of P) (line t.entry how number b ∷ [])
leave_all P hs t how number b i a = (
  all_kept_by (λ h. not (eqb h.entry.position t.entry.position)) (λ r. P r.entry) hs a,
  ((t.entry, in_all (λ (r : Held). P r.entry) hs t a i, (refl, refl)), tt),
)

pub applied_all : (P : Entry → Type 0) (m : Meaning) (g : Settings) (s : State) (t : Held) (r : Rule) → In s.held t → Holds P s.held → Holds P (applied m g s t r).after.held × AllByRecursion (Of P) (applied m g s t r).lines
applied_all P m g s t large i a = release_all P m g s t.label a
applied_all P m g s t (covered b) i a = leave_all P s.held t Reused b.number b.ranges i a
applied_all P m g s t outnumbered i a = leave_all P s.held t Suppressed 0 no_box i a
applied_all P m g s t too_few i a = leave_all P s.held t Suppressed 0 no_box i a
applied_all P m g s t joining i a = release_all P m g (grown m g s t.label) t.label (grown_holds P m g s t.label a)
