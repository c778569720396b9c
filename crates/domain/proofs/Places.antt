-- Boxes place by place, and their laws from those of each attribute.
use Rattle.std.proofs.Common.{◌≡◌, ℕ, zero, suc, ◌+◌, ◌<◌, ◌≤◌, Bool, true, false, cond, ◌&&◌, ltb, leb, List, map, length, sum, sym, refl, ap, ◌∙◌, subst, ⊎_elim, arith}
use Rattle.std.specs.List.{range_with_len}
use Rattle.std.proofs.lemmas.List.FromFn.{length-range_with_len, length-map-range_with_len, fill_by_all, get_or-range_with_len, get_or-map-range_with_len, sum_by-map-range_with_len_more}
use Rattle.std.proofs.lemmas.List.{get_or_past}
use Rattle.std.proofs.lemmas.List.Elements.{All-get_or, All-from_get_or}
use Rattle.std.proofs.lemmas.List.Sums.{sum_by-cons, list_all-from_AllPass, AllPass-from_list_all}
use Rattle.std.proofs.lemmas.Bool.{ltb-true, lt-ltb, le-ltb, leb-true, le-leb, and_parts, and_from, and_left, or_cases, cases_Bool, cases_lt, cond-true, cond-false, cond_both}
use Rattle.domain.specs.declared.range.Range.{Range}
use Rattle.domain.specs.Ranges.{point, within, Inside}
use Rattle.domain.specs.Meaning.{Meaning, full_loss, places, known, join_of, loss_of, Least}
use Rattle.domain.specs.Boxes.{range_at, value_at, known_count, all_pass, point_box, join_boxes, box_loss, covers}
use Rattle.domain.specs.BoxLaws.{Allowed, Admitted, InsideBox, LeastBox, LeastCover, LeastWider, CoversBoth, BoxSemilattice}
use Rattle.domain.specs.JoinsLemmas.{inside_trans, semilattice}

-- ---- one attribute

pub known_tells : (m : Meaning) (i : ℕ) → known m i ≡ true → i < known_count m
known_tells m i e =
    let p = and_parts (ltb i m.n) (ltb i places) e in
    let x = ltb-true i m.n p.0 in
    let y = ltb-true i places p.1 in
    omega arith

pub known_from : (m : Meaning) (i : ℕ) → i < known_count m → known m i ≡ true
known_from m i l = and_from (ltb i m.n) (ltb i places) (lt-ltb i m.n (omega arith)) (lt-ltb i places (omega arith))

pub join_known : (m : Meaning) (i : ℕ) (a b : Range) → known m i ≡ true → (m.attribute i).allowed a ≡ true → (m.attribute i).allowed b ≡ true → join_of m i a b ≡ (m.attribute i).join a b
join_known m i a b k p q = cond-true (known m i && ((m.attribute i).allowed a && (m.attribute i).allowed b)) ((m.attribute i).join a b) a (and_from _ _ k (and_from _ _ p q))

pub join_unknown : (m : Meaning) (i : ℕ) (a b : Range) → known m i ≡ false → join_of m i a b ≡ a
join_unknown m i a b k = cond-false _ _ _ (and_left _ _ k)

pub loss_known : (m : Meaning) (i : ℕ) (a : Range) → known m i ≡ true → (m.attribute i).allowed a ≡ true → loss_of m i a ≡ (m.attribute i).loss a
loss_known m i a k p = cond-true (known m i && (m.attribute i).allowed a) ((m.attribute i).loss a) 0 (and_from _ _ k p)

pub loss_le : (m : Meaning) (i : ℕ) (a : Range) → loss_of m i a ≤ full_loss
loss_le m i a =
    cond_both (known m i && (m.attribute i).allowed a) ((m.attribute i).loss a) 0 (λ x. x ≤ full_loss)
    (λ e. (m.attribute i).facts.bounded a (and_parts _ _ e).1) (λ _. omega arith)

pub join_least : (m : Meaning) (i : ℕ) (a b : Range) → known m i ≡ true → (m.attribute i).allowed a ≡ true → (m.attribute i).allowed b ≡ true → Least (m.attribute i).allowed a b (join_of m i a b)
join_least m i a b k p q = subst (Least (m.attribute i).allowed a b) (sym (join_known m i a b k p q)) ((m.attribute i).facts.joins a b p q)

-- ---- tests of each and sums over `range_with_len`

pub counting_from : (p : ℕ → Bool) (n : ℕ) → ((i : ℕ) → i < n → p i ≡ true) → all_pass p (range_with_len 0 n) ≡ true
counting_from p n h =
    list_all-from_AllPass p (range_with_len 0 n) (All-from_get_or (λ i. p i ≡ true) (range_with_len 0 n) 0
    (λ i l. let l' : i < n = omega (arith, length-range_with_len 0 n) in subst (λ j. p j ≡ true) (sym (get_or-range_with_len 0 n i 0 l' ∙ omega arith)) (h i l')))

pub counting_tells : (p : ℕ → Bool) (n i : ℕ) → all_pass p (range_with_len 0 n) ≡ true → i < n → p i ≡ true
counting_tells p n i e l =
    subst (λ j. p j ≡ true) (get_or-range_with_len 0 n i 0 l ∙ omega arith)
    (All-get_or (λ i. p i ≡ true) (range_with_len 0 n) i 0 (omega (arith, length-range_with_len 0 n)) (AllPass-from_list_all p (range_with_len 0 n) e))

pub sum_more : (f : ℕ → ℕ) (n : ℕ) → sum (map f (range_with_len 0 (n + 1))) ≡ sum (map f (range_with_len 0 n)) + f n
sum_more f n = sum_by-map-range_with_len_more (λ x. x) f 0 n n (omega arith)

sum_mono : (f g : ℕ → ℕ) (a n : ℕ) → ((i : ℕ) → a ≤ i → i < a + n → f i ≤ g i) → sum (map f (range_with_len a n)) ≤ sum (map g (range_with_len a n))
sum_mono f g a zero h = omega arith
sum_mono f g a (suc n) h =
    let rest = sum_mono f g (a + 1) n (λ i l u. h i (omega arith) (omega arith)) in
    let here = h a (omega arith) (omega arith) in
    omega (arith, sum_by-cons (λ x. x) (f a) (map f (range_with_len (a + 1) n)), sum_by-cons (λ x. x) (g a) (map g (range_with_len (a + 1) n)))

-- ---- boxes

pub point_box_at : (m : Meaning) (vs : List ℕ) (i : ℕ) → i < places → range_at (point_box m vs) i ≡ point (cond (known m i) (value_at vs i) 0)
unfolding point_box
point_box_at m vs i l = get_or-map-range_with_len (λ i. point (cond (known m i) (value_at vs i) 0)) 0 places i i (point 0) l (omega arith)

pub join_boxes_at : (m : Meaning) (a b : List Range) (i : ℕ) → i < places → range_at (join_boxes m a b) i ≡ join_of m i (range_at a i) (range_at b i)
unfolding join_boxes
join_boxes_at m a b i l = get_or-map-range_with_len (λ i. join_of m i (range_at a i) (range_at b i)) 0 places i i (point 0) l (omega arith)

pub covers_from : (m : Meaning) (b : List Range) (vs : List ℕ) → ((i : ℕ) → i < known_count m → within (range_at b i) (value_at vs i) ≡ true) → covers m b vs ≡ true
unfolding covers
covers_from m b vs h = counting_from _ (known_count m) h

pub covers_tells : (m : Meaning) (b : List Range) (vs : List ℕ) (i : ℕ) → covers m b vs ≡ true → i < known_count m → within (range_at b i) (value_at vs i) ≡ true
unfolding covers
covers_tells m b vs i e l = counting_tells (λ i. within (range_at b i) (value_at vs i)) (known_count m) i e l

pub loss_mono : (m : Meaning) (a b : List Range) → Allowed m a → Allowed m b → InsideBox m a b → box_loss m a ≤ box_loss m b
unfolding box_loss
loss_mono m a b p q h =
    sum_mono (λ i. loss_of m i (range_at a i)) (λ i. loss_of m i (range_at b i)) 0 (known_count m)
    (λ i _ u.
    let k = known_from m i (omega arith) in
    let t = m.attribute i in
    rw (loss_known m i (range_at a i) k (p i k), loss_known m i (range_at b i) k (q i k)) (t.facts.monotone (range_at a i) (range_at b i) (p i k) (q i k) (h i k)))

pub join_boxes_least : (m : Meaning) (a b : List Range) → Allowed m a → Allowed m b → LeastBox m a b (join_boxes m a b)
join_boxes_least m a b p q =
    let at : (i : ℕ) → known m i ≡ true → Least (m.attribute i).allowed (range_at a i) (range_at b i) (range_at (join_boxes m a b) i) =
    λ i k. subst (Least (m.attribute i).allowed (range_at a i) (range_at b i)) (sym (join_boxes_at m a b i (omega (arith, known_tells m i k)))) (join_least m i (range_at a i) (range_at b i) k (p i k) (q i k)) in
    record {
      is_allowed = λ i k. (at i k).is_allowed;
      first = λ i k. (at i k).first;
      second = λ i k. (at i k).second;
      least = λ x ok l r i k. (at i k).least (range_at x i) (ok i k) (l i k) (r i k);
    }

within_tells : (a : Range) (v : ℕ) → within a v ≡ true → Inside (point v) a
within_tells a v e = let p = and_parts (leb a.low v) (leb v a.high) e in (leb-true _ _ p.0, leb-true _ _ p.1)

within_from : (a : Range) (v : ℕ) → Inside (point v) a → within a v ≡ true
within_from a v h = and_from (leb a.low v) (leb v a.high) (le-leb _ _ h.0) (le-leb _ _ h.1)

-- a box that contains another covers what the other covers
pub covers_wider : (m : Meaning) (a b : List Range) (vs : List ℕ) → InsideBox m a b → covers m a vs ≡ true → covers m b vs ≡ true
covers_wider m a b vs h e = covers_from m b vs (λ i l.
    within_from (range_at b i) (value_at vs i)
    (inside_trans (point (value_at vs i)) (range_at a i) (range_at b i) (within_tells (range_at a i) (value_at vs i) (covers_tells m a vs i e l)) (h i (known_from m i l))))

pub join_boxes_covers : (m : Meaning) (a b : List Range) → Allowed m a → Allowed m b → CoversBoth m a b (join_boxes m a b)
join_boxes_covers m a b p q vs e =
    let j = join_boxes_least m a b p q in
    ⊎_elim (covers_wider m a (join_boxes m a b) vs j.first) (covers_wider m b (join_boxes m a b) vs j.second) (or_cases (covers m a vs) (covers m b vs) e)

-- the box of a record at a known attribute
point_box_known : (m : Meaning) (vs : List ℕ) (i : ℕ) → known m i ≡ true → range_at (point_box m vs) i ≡ point (value_at vs i)
point_box_known m vs i k = point_box_at m vs i (omega (arith, known_tells m i k)) ∙ ap point (cond-true (known m i) (value_at vs i) 0 k)

length_point : (m : Meaning) (vs : List ℕ) → length (point_box m vs) ≡ places
unfolding point_box
length_point m vs = length-map-range_with_len (λ i. point (cond (known m i) (value_at vs i) 0)) 0 places

sum_none : (f : ℕ → ℕ) (n : ℕ) → ((i : ℕ) → i < n → f i ≡ 0) → sum (map f (range_with_len 0 n)) ≡ 0
sum_none f zero h = refl
sum_none f (suc n) h =
    let rest = sum_none f n (λ i l. h i (omega arith)) in
    let here = h n (omega arith) in
    let e : suc n ≡ n + 1 = omega arith in
    ap (λ k. sum (map f (range_with_len 0 k))) e ∙ sum_more f n ∙ omega arith

point_box_lossless : (m : Meaning) (vs : List ℕ) → Admitted m vs → box_loss m (point_box m vs) ≡ 0
unfolding box_loss
point_box_lossless m vs h = sum_none _ (known_count m) (λ i l.
    let k = known_from m i l in
    let t = m.attribute i in
    ap (loss_of m i) (point_box_known m vs i k) ∙ loss_known m i (point (value_at vs i)) k (t.facts.points (value_at vs i) (h i k)) ∙ t.facts.lossless (value_at vs i) (h i k))

pub point_box_least : (m : Meaning) (vs : List ℕ) → Admitted m vs → LeastCover m vs (point_box m vs)
point_box_least m vs h =
    let at = point_box_known m vs in
    record {
      is_box = record {
        six = length_point m vs;
        allowed = λ i k. subst (λ r. (m.attribute i).allowed r ≡ true) (sym (at i k)) ((m.attribute i).facts.points (value_at vs i) (h i k));
        unused = λ i u. ⊎_elim (λ l. point_box_at m vs i l ∙ ap point (cond-false (known m i) (value_at vs i) 0 u)) (λ l. get_or_past (point_box m vs) i (point 0) (omega (arith, length_point m vs))) (cases_lt i places);
      };
      covering = covers_from m (point_box m vs) vs (λ i l.
          let k = known_from m i l in
          subst (λ r. within r (value_at vs i) ≡ true) (sym (at i k)) (within_from (point (value_at vs i)) (value_at vs i) (omega arith)));
      least = λ x e i k. subst (λ r. Inside r (range_at x i)) (sym (at i k)) (within_tells (range_at x i) (value_at vs i) (covers_tells m x vs i e (known_tells m i k)));
      lossless = point_box_lossless m vs h;
    }

-- ---- the laws of join, place by place

length_join : (m : Meaning) (a b : List Range) → length (join_boxes m a b) ≡ places
unfolding join_boxes
length_join m a b = length-map-range_with_len (λ i. join_of m i (range_at a i) (range_at b i)) 0 places

-- two boxes that agree at every place
same_boxes : (a b : List Range) → length a ≡ places → length b ≡ places → ((i : ℕ) → i < places → range_at a i ≡ range_at b i) → a ≡ b
same_boxes a b p q h = fill_by_all (range_at b) a places (point 0) p h ∙ sym (fill_by_all (range_at b) b places (point 0) q (λ k _. refl))

join_assoc : (m : Meaning) (i : ℕ) (a b c : Range) → known m i ≡ true → (m.attribute i).allowed a ≡ true → (m.attribute i).allowed b ≡ true → (m.attribute i).allowed c ≡ true
    → join_of m i (join_of m i a b) c ≡ join_of m i a (join_of m i b c)
join_assoc m i a b c k p q r =
    let t = m.attribute i in
    let ab = (t.facts.joins a b p q).is_allowed in
    let bc = (t.facts.joins b c q r).is_allowed in
    ap (λ x. join_of m i x c) (join_known m i a b k p q) ∙ join_known m i (t.join a b) c k ab r
    ∙ (semilattice t).associative a b c p q r
    ∙ sym (join_known m i a (t.join b c) k p bc) ∙ sym (ap (join_of m i a) (join_known m i b c k q r))

pub box_semilattice : (m : Meaning) → BoxSemilattice m
box_semilattice m =
    let at = join_boxes_at m in
    let J = join_boxes m in
    record {
      closed = λ a b p q. record {
        six = length_join m a b;
        allowed = (join_boxes_least m a b p.allowed q.allowed).is_allowed;
        unused = λ i u. ⊎_elim (λ l. at a b i l ∙ join_unknown m i _ _ u ∙ p.unused i u) (λ l. get_or_past (J a b) i (point 0) (omega (arith, length_join m a b))) (cases_lt i places);
      };
      idempotent = λ a p. same_boxes (J a a) a (length_join m a a) p.six (λ i l. at a a i l ∙ ⊎_elim
          (λ k. let ok = p.allowed i k in join_known m i (range_at a i) (range_at a i) k ok ok ∙ (semilattice (m.attribute i)).idempotent (range_at a i) ok)
          (λ u. join_unknown m i (range_at a i) (range_at a i) u)
          (cases_Bool (known m i)));
      commutative = λ a b p q. same_boxes (J a b) (J b a) (length_join m a b) (length_join m b a) (λ i l. at a b i l ∙ ⊎_elim
          (λ k. let x = p.allowed i k in let y = q.allowed i k in
          join_known m i (range_at a i) (range_at b i) k x y ∙ (semilattice (m.attribute i)).commutative (range_at a i) (range_at b i) x y ∙ sym (join_known m i (range_at b i) (range_at a i) k y x))
          (λ u. join_unknown m i (range_at a i) (range_at b i) u ∙ p.unused i u ∙ sym (q.unused i u) ∙ sym (join_unknown m i (range_at b i) (range_at a i) u))
          (cases_Bool (known m i)) ∙ sym (at b a i l));
      associative = λ a b c p q r. same_boxes (J (J a b) c) (J a (J b c)) (length_join m (J a b) c) (length_join m a (J b c)) (λ i l.
          at (J a b) c i l ∙ ap (λ x. join_of m i x (range_at c i)) (at a b i l) ∙ ⊎_elim
          (λ k. join_assoc m i (range_at a i) (range_at b i) (range_at c i) k (p.allowed i k) (q.allowed i k) (r.allowed i k))
          (λ u. join_unknown m i (join_of m i (range_at a i) (range_at b i)) (range_at c i) u ∙ join_unknown m i (range_at a i) (range_at b i) u ∙ sym (join_unknown m i (range_at a i) (join_of m i (range_at b i) (range_at c i)) u))
          (cases_Bool (known m i)) ∙ sym (ap (join_of m i (range_at a i)) (at b c i l)) ∙ sym (at a (J b c) i l));
    }

-- a box that was changed place by place, once the known ones are done
pub widened_is : (m : Meaning) (b : List Range) (vs : List ℕ) (j : List Range) → length j ≡ places → ((k : ℕ) → k < known_count m → range_at j k ≡ join_of m k (range_at b k) (point (value_at vs k))) → ((k : ℕ) → known_count m ≤ k → range_at j k ≡ range_at b k) → j ≡ join_boxes m b (point_box m vs)
unfolding join_boxes
widened_is m b vs j six low high =
    fill_by_all (λ i. join_of m i (range_at b i) (range_at (point_box m vs) i)) j places (point 0) six (λ k l. ⊎_elim
    (λ in'. low k in' ∙ ap (join_of m k (range_at b k)) (sym (point_box_known m vs k (known_from m k in'))))
    (λ out. high k out ∙ sym (join_unknown m k (range_at b k) (range_at (point_box m vs) k) (and_left _ _ (le-ltb k m.n (omega arith)))))
    (cases_lt k (known_count m)))

-- a box that took a record in
pub widened_least : (m : Meaning) (b : List Range) (vs : List ℕ) → Allowed m b → Admitted m vs → LeastWider m b vs (join_boxes m b (point_box m vs))
widened_least m b vs p q =
    let one = point_box_least m vs q in
    let j = join_boxes_least m b (point_box m vs) p one.is_box.allowed in
    record {
      is_allowed = j.is_allowed;
      containing = j.first;
      covering = covers_wider m (point_box m vs) (join_boxes m b (point_box m vs)) vs j.second one.covering;
      least = λ k ok l e. j.least k ok l (one.least k e);
    }
