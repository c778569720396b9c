-- The box of admitted records is the least around them, and the only one.
use Rattle.std.proofs.Common.{◌≡◌, ℕ, ◌≤◌, true, List, [], ◌∷◌, ◌++◌, length, fold, sym, refl, ◌∙◌, ⊎_elim, le_antisymm, arith}
use Rattle.std.specs.List.{AllByRecursion}
use Rattle.std.proofs.lemmas.List.{length-append}
use Rattle.std.proofs.lemmas.List.FromFn.{fill_by_all}
use Rattle.std.proofs.lemmas.Bool.{cases_Bool, or_left, or_right}
use Rattle.std.proofs.ByRecursion.{All-weaker}
use Rattle.domain.specs.declared.range.Range.{Range}
use Rattle.domain.specs.Ranges.{point}
use Rattle.domain.specs.Meaning.{Meaning, known, places}
use Rattle.domain.specs.Boxes.{range_at, point_box, join_boxes}
use Rattle.domain.specs.BoxLaws.{Allowed, InsideBox}
use Rattle.domain.specs.BoxLaws as laws
use Rattle.domain.specs.JoinsLemmas as joins
use Rattle.domain.proofs.Places.{join_boxes_least, join_boxes_covers, covers_wider, point_box_least, widened_least, box_semilattice, loss_mono}
use Rattle.rules.specs.declared.Entry.{Entry}
use Rattle.rules.specs.Choosing.{In}
use Rattle.rules.specs.Clusters.{Box, values, widened, box_of, cost, covers_entry}
use Rattle.rules.proofs.Totals.{in_all}
use Rattle.rules.specs.Around.{Fit, CoversAll, LeastAround, BoxesRecords, Together, BoxesStand}

inside_trans : (m : Meaning) (a b c : Box) → InsideBox m a b → InsideBox m b c → InsideBox m a c
inside_trans m a b c p q i k = joins.inside_trans (range_at a i) (range_at b i) (range_at c i) (p i k) (q i k)

inside_self : (m : Meaning) (b : Box) → InsideBox m b b
inside_self m b i k = (omega arith, omega arith)

-- the least box that contains b and covers the records
record Wider (m : Meaning) (b : Box) (es : List Entry) (j : Box) : Type 0 where
  is_box : laws.Box m j
  containing : InsideBox m b j
  covering : CoversAll m j es
  least : (k : Box) → Allowed m k → InsideBox m b k → CoversAll m k es → InsideBox m j k

wider : (m : Meaning) (b : Box) (es : List Entry) → laws.Box m b → AllByRecursion (Fit m) es → Wider m b es (fold (widened m) b es)
wider m b [] p a = record { is_box = p; containing = inside_self m b; covering = tt; least = λ k _ l _. l }
wider m b (e ∷ es) p a =
    let one = point_box_least m (values e) a.0 in
    let w = widened_least m b (values e) p.allowed a.0 in
    let rest = wider m (widened m b e) es ((box_semilattice m).closed b (point_box m (values e)) p one.is_box) a.1 in
    let j = fold (widened m) (widened m b e) es in
    record {
      is_box = rest.is_box;
      containing = inside_trans m b (widened m b e) j w.containing rest.containing;
      covering = (covers_wider m (widened m b e) j (values e) rest.containing w.covering, rest.covering);
      least = λ k ok l c. rest.least k ok (w.least k ok l c.0) c.1;
    }

pub box_least : (m : Meaning) (es : List Entry) → 1 ≤ length es → AllByRecursion (Fit m) es → LeastAround m es (box_of m es)
box_least m [] l a = absurd (omega (arith, l))
box_least m (e ∷ es) l a =
    let one = point_box_least m (values e) a.0 in
    let w = wider m (point_box m (values e)) es one.is_box a.1 in
    record {
      is_box = w.is_box;
      covering = (covers_wider m (point_box m (values e)) (box_of m (e ∷ es)) (values e) w.containing one.covering, w.covering);
      least = λ k ok c. w.least k ok (one.least k c.0) c.1;
    }

same_range : (a b : Range) → (b.low ≤ a.low) × (a.high ≤ b.high) → (a.low ≤ b.low) × (b.high ≤ a.high) → a ≡ b
same_range a b p q =
    let low : a.low ≡ b.low = le_antisymm q.0 p.0 in
    let high : a.high ≡ b.high = le_antisymm p.1 q.1 in
    λ i. record { low = low i; high = high i }

-- two boxes that lie inside one another
same_box : (m : Meaning) (a b : Box) → laws.Box m a → laws.Box m b → InsideBox m a b → InsideBox m b a → a ≡ b
same_box m a b p q l r =
    fill_by_all (range_at b) a places (point 0) p.six (λ i _. at i) ∙ sym (fill_by_all (range_at b) b places (point 0) q.six (λ _ _. refl))
  where
    at : (i : ℕ) → range_at a i ≡ range_at b i
    at i = ⊎_elim (λ k. same_range (range_at a i) (range_at b i) (l i k) (r i k)) (λ u. p.unused i u ∙ sym (q.unused i u)) (cases_Bool (known m i))

pub boxes_records : (m : Meaning) (es : List Entry) → 1 ≤ length es → AllByRecursion (Fit m) es → BoxesRecords m es
boxes_records m es l a =
    let b = box_least m es l a in
    record {
      is_least = b;
      no_other = λ k x. same_box m k (box_of m es) x.is_box b.is_box (x.least (box_of m es) b.is_box.allowed b.covering) (b.least k x.is_box.allowed x.covering);
      cheapest = λ k ok c. loss_mono m (box_of m es) k b.is_box.allowed ok (b.least k ok c);
    }

pub box_covers : (m : Meaning) (es : List Entry) → AllByRecursion (Fit m) es → CoversAll m (box_of m es) es
box_covers m [] a = tt
box_covers m (e ∷ es) a = (box_least m (e ∷ es) (omega arith) a).covering

-- ---- more records

folded_push : {X Y : Type 0} (f : X → Y → X) (x : X) (ys : List Y) (y : Y) → fold f x (ys ++ y ∷ []) ≡ f (fold f x ys) y
folded_push f x [] y = refl
folded_push f x (z ∷ ys) y = folded_push f (f x z) ys y

box_wider : (m : Meaning) (es : List Entry) (e : Entry) → 1 ≤ length es → box_of m (es ++ e ∷ []) ≡ widened m (box_of m es) e
box_wider m [] e l = absurd (omega (arith, l))
box_wider m (x ∷ es) e l = folded_push (widened m) (point_box m (values x)) es e

some_in : (es gs : List Entry) → 1 ≤ length es → AllByRecursion (In gs) es → 1 ≤ length gs
some_in [] gs l a = absurd (omega (arith, l))
some_in (e ∷ es) [] l a = absurd a.0
some_in (e ∷ es) (g ∷ gs) l a = omega arith

box_joined : (m : Meaning) (es fs gs : List Entry) → 1 ≤ length es → 1 ≤ length fs → AllByRecursion (Fit m) es → AllByRecursion (Fit m) fs → Together es fs gs → box_of m gs ≡ join_boxes m (box_of m es) (box_of m fs)
box_joined m es fs gs l r a b t =
    let x = box_least m es l a in
    let y = box_least m fs r b in
    let both : (P : Entry → Type 0) → AllByRecursion P es → AllByRecursion P fs → AllByRecursion P gs = λ P p q. All-weaker _ P (λ e i. ⊎_elim (in_all P es e p) (in_all P fs e q) i) gs t.either in
    let j = join_boxes_least m (box_of m es) (box_of m fs) x.is_box.allowed y.is_box.allowed in
    let wide = join_boxes_covers m (box_of m es) (box_of m fs) x.is_box.allowed y.is_box.allowed in
    sym ((boxes_records m gs (some_in es gs l t.all_first) (both (Fit m) a b)).no_other (join_boxes m (box_of m es) (box_of m fs)) (record {
      is_box = (box_semilattice m).closed (box_of m es) (box_of m fs) x.is_box y.is_box;
      covering = both (λ e. covers_entry m (join_boxes m (box_of m es) (box_of m fs)) e ≡ true)
          (All-weaker _ _ (λ e c. wide (values e) (or_left (covers_entry m (box_of m es) e) (covers_entry m (box_of m fs) e) c)) es x.covering)
          (All-weaker _ _ (λ e c. wide (values e) (or_right (covers_entry m (box_of m es) e) (covers_entry m (box_of m fs) e) c)) fs y.covering);
      least = λ k ok c. j.least k ok
          (x.least k ok (All-weaker (In gs) _ (λ e i. in_all (λ e. covers_entry m k e ≡ true) gs e c i) es t.all_first))
          (y.least k ok (All-weaker (In gs) _ (λ e i. in_all (λ e. covers_entry m k e ≡ true) gs e c i) fs t.all_second));
    }))

all_front : (P : Entry → Type 0) (xs ys : List Entry) → AllByRecursion P (xs ++ ys) → AllByRecursion P xs
all_front P [] ys a = tt
all_front P (x ∷ xs) ys a = (a.0, all_front P xs ys a.1)

box_grows : (m : Meaning) (es more : List Entry) → AllByRecursion (Fit m) (es ++ more) → 1 ≤ length es → cost m es ≤ cost m (es ++ more)
box_grows m es more a l =
    let b = box_least m (es ++ more) (omega (arith, l, length-append es more)) a in
    (boxes_records m es l (all_front (Fit m) es more a)).cheapest (box_of m (es ++ more)) b.is_box.allowed (all_front (λ e. covers_entry m (box_of m (es ++ more)) e ≡ true) es more b.covering)

pub boxes_stand : BoxesStand
boxes_stand = record { grows = box_grows; least = boxes_records; wider = box_wider; joined = box_joined }
