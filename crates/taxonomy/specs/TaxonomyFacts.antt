-- Proofs alone: that nested groups are an attribute. A reader of the claims can pass it over.
use Rattle.std.specs.Prelude.{◌≡◌, ℕ, ◌-◌, ◌<◌, ◌≤◌, max, Bool, true, false, ◌&&◌, ◌||◌, ◌⊎◌, List, [], ◌∷◌, fold, ◌==◌, nat_le, nat_lt, refl}
use Rattle.std.proofs.Common.{inl, inr, ⊎_elim, arith}
use Rattle.std.proofs.lemmas.Bool.{leb-true, le-leb, ltb-true, ltb-false, lt-ltb, eqb-true, eq-eqb, and_parts, and_from, or_cases, or_left, or_right, or_parts, both_ways, cases_Bool, cond_both}
use Rattle.domain.specs.declared.range.Range.{Range}
use Rattle.domain.specs.Boxes.{all_pass}
use Rattle.domain.specs.IntervalFacts.{share_point, share_mono, share_le}
use Rattle.domain.specs.Meaning.{Facts, Least, share}
use Rattle.domain.specs.Ranges.{point, is_inside, Inside}
use Rattle.domain.specs.JoinsLemmas.{inside_trans}
use Rattle.taxonomy.specs.Groups.{whole, apart, nested, in_tree, well_nested, same, among, allowed}
use Rattle.taxonomy.specs.Cover.{narrower, cover}

-- ---- what the tests tell

pub inside_tells : (a b : Range) → is_inside a b ≡ true → Inside a b
inside_tells a b e = let q = and_parts (nat_le b.low a.low) (nat_le a.high b.high) e in (leb-true _ _ q.0, leb-true _ _ q.1)

inside_from : (a b : Range) → Inside a b → is_inside a b ≡ true
inside_from a b e = and_from _ _ (le-leb _ _ e.0) (le-leb _ _ e.1)

pub same_tells : (a b : Range) → same a b ≡ true → a ≡ b
same_tells a b e =
    let q = and_parts (a.low == b.low) (a.high == b.high) e in
    let low : a.low ≡ b.low = eqb-true _ _ q.0 in
    let high : a.high ≡ b.high = eqb-true _ _ q.1 in
    λ i. record { low = low i; high = high i }

pub same_from : (a b : Range) → a ≡ b → same a b ≡ true
same_from a b e = rw e (and_from (b.low == b.low) (b.high == b.high) (eq-eqb _ _ refl) (eq-eqb _ _ refl))

pub record InTree (m : ℕ) (a : Range) : Type 0 where
  pub ordered : a.low ≤ a.high
  pub below : a.high < m

pub in_tree_tells : (m : ℕ) (gs : List Range) (a : Range) → allowed m gs a ≡ true → InTree m a
in_tree_tells m gs a e =
    let p = and_parts (nat_le a.low a.high) _ e in
    let q = and_parts (nat_lt a.high m) (a.low == a.high || (same a (whole m) || among a gs)) p.1 in
    record { ordered = leb-true _ _ p.0; below = ltb-true _ _ q.0 }

data Kind (m : ℕ) (gs : List Range) (a : Range) : Type 0 where
  leaf : a.low ≡ a.high → Kind m gs a
  tree : a ≡ whole m → Kind m gs a
  group : among a gs ≡ true → Kind m gs a

kind : (m : ℕ) (gs : List Range) (a : Range) → allowed m gs a ≡ true → Kind m gs a
kind m gs a e =
    let p = and_parts (nat_le a.low a.high) (nat_lt a.high m && (a.low == a.high || (same a (whole m) || among a gs))) e in
    let q = and_parts (nat_lt a.high m) (a.low == a.high || (same a (whole m) || among a gs)) p.1 in
    let rest : (same a (whole m) || among a gs) ≡ true → Kind m gs a = λ r. ⊎_elim (λ w. tree (same_tells a (whole m) w)) group (or_cases (same a (whole m)) (among a gs) r) in
    ⊎_elim (λ l. leaf (eqb-true _ _ l)) rest (or_cases (a.low == a.high) (same a (whole m) || among a gs) q.1)

allowed_from : (m : ℕ) (gs : List Range) (a : Range) → InTree m a → (a.low == a.high || (same a (whole m) || among a gs)) ≡ true → allowed m gs a ≡ true
allowed_from m gs a t e = and_from (nat_le a.low a.high) _ (le-leb _ _ t.ordered) (and_from (nat_lt a.high m) _ (lt-ltb _ _ t.below) e)

-- ---- two allowed ranges that share a leaf: one lies inside the other

abbrev Chained : Range → Range → Type 0
Chained a b = Inside a b ⊎ Inside b a

abbrev Meets : ℕ → Range → Type 0
Meets p a = (a.low ≤ p) × (p ≤ a.high)

flip : (a b : Range) → Chained a b → Chained b a
flip a b c = ⊎_elim inr inl c

apart_meets : (p : ℕ) (g h : Range) → apart g h ≡ true → Meets p g → Meets p h → ⊥
apart_meets p g h d x y =
    ⊎_elim (λ t. omega (arith, ltb-true g.high h.low t)) (λ t. omega (arith, ltb-true h.high g.low t)) (or_cases (nat_lt g.high h.low) (nat_lt h.high g.low) d)

nested_chained : (p : ℕ) (g h : Range) → nested g h ≡ true → Meets p g → Meets p h → Chained g h
nested_chained p g h e x y =
    let rest : (is_inside h g || apart g h) ≡ true → Chained g h = λ r. ⊎_elim (λ i. inr (inside_tells h g i)) (λ d. absurd (apart_meets p g h d x y)) (or_cases (is_inside h g) (apart g h) r) in
    ⊎_elim (λ i. inl (inside_tells g h i)) rest (or_cases (is_inside g h) (is_inside h g || apart g h) e)

-- a group, and one of it and those behind it
with_all : (p : ℕ) (g y : Range) (gs : List Range) → all_pass (nested g) gs ≡ true → among y gs ≡ true → Meets p g → Meets p y → Chained g y
with_all p g y [] e m x z = absurd (both_ways false refl m)
with_all p g y (h ∷ hs) e m x z =
    let q = and_parts (nested g h) (all_pass (nested g) hs) e in
    ⊎_elim
    (λ s. let w = same_tells y h s in rw w (nested_chained p g h q.0 x (rw w at z)))
    (λ r. with_all p g y hs q.1 r x z)
    (or_cases (same y h) (among y hs) m)

with_itself : (p : ℕ) (g y : Range) (gs : List Range) → all_pass (nested g) gs ≡ true → among y (g ∷ gs) ≡ true → Meets p g → Meets p y → Chained g y
with_itself p g y gs e m x z = ⊎_elim (λ s. rw (same_tells y g s) (inl (omega arith))) (λ r. with_all p g y gs e r x z) (or_cases (same y g) (among y gs) m)

groups_chained : (p m : ℕ) (x y : Range) (gs : List Range) → well_nested m gs ≡ true → among x gs ≡ true → among y gs ≡ true → Meets p x → Meets p y → Chained x y
groups_chained p m x y [] e a b u v = absurd (both_ways false refl a)
groups_chained p m x y (h ∷ hs) e a b u v =
    let q = and_parts (in_tree m h) (all_pass (nested h) hs && well_nested m hs) e in
    let r = and_parts (all_pass (nested h) hs) (well_nested m hs) q.1 in
    let later : among x hs ≡ true → Chained x y = λ ax. ⊎_elim
    (λ sy. let w = same_tells y h sy in rw w (flip h x (with_itself p h x hs r.0 a (rw w at v) u)))
    (λ ay. groups_chained p m x y hs r.1 ax ay u v)
    (or_cases (same y h) (among y hs) b) in
    ⊎_elim (λ sx. let w = same_tells x h sx in rw w (with_itself p h y hs r.0 b (rw w at u) v)) later (or_cases (same x h) (among x hs) a)

kinds_chained : (p m : ℕ) (gs : List Range) → well_nested m gs ≡ true → (x y : Range) → InTree m x → InTree m y → Kind m gs x → Kind m gs y → Meets p x → Meets p y → Chained x y
kinds_chained p m gs e x y tx ty (leaf l) k u v = inl (omega arith)
kinds_chained p m gs e x y tx ty (tree w) k u v = rw w (inr (omega arith))
kinds_chained p m gs e x y tx ty (group a) (leaf l) u v = inr (omega arith)
kinds_chained p m gs e x y tx ty (group a) (tree w) u v = rw w (inl (omega arith))
kinds_chained p m gs e x y tx ty (group a) (group b) u v = groups_chained p m x y gs e a b u v

allowed_chained : (p m : ℕ) (gs : List Range) → well_nested m gs ≡ true → (x y : Range) → allowed m gs x ≡ true → allowed m gs y ≡ true → Meets p x → Meets p y → Chained x y
allowed_chained p m gs e x y a b u v = kinds_chained p m gs e x y (in_tree_tells m gs x a) (in_tree_tells m gs y b) (kind m gs x a) (kind m gs y b) u v

pub allowed_nested : (m : ℕ) (gs : List Range) → well_nested m gs ≡ true → (x y : Range) → allowed m gs x ≡ true → allowed m gs y ≡ true → nested x y ≡ true
allowed_nested m gs e x y a b =
    let tx = in_tree_tells m gs x a in
    let ty = in_tree_tells m gs y b in
    let meet : apart x y ≡ false → Chained x y = λ f.
    let q = or_parts (nat_lt x.high y.low) (nat_lt y.high x.low) f in
    let l = ltb-false x.high y.low q.0 in
    let r = ltb-false y.high x.low q.1 in
    allowed_chained (max x.low y.low) m gs e x y a b (omega arith) (omega arith) in
    let one : Chained x y → nested x y ≡ true = ⊎_elim
    (λ i. or_left (is_inside x y) _ (inside_from x y i))
    (λ i. or_right (is_inside x y) _ (or_left (is_inside y x) (apart x y) (inside_from y x i))) in
    ⊎_elim (λ t. or_right (is_inside x y) _ (or_right (is_inside y x) (apart x y) t)) (λ f. one (meet f)) (cases_Bool (apart x y))

-- ---- the narrowest of those that contain both is the least

record Found (ok : Range → Bool) (a b best r : Range) : Type 0 where
  is_allowed : ok r ≡ true
  first : Inside a r
  second : Inside b r
  within : Inside r best

-- one candidate more
narrower_found : (ok : Range → Bool) (a b : Range) (chain : (x y : Range) → ok x ≡ true → ok y ≡ true → Inside a x → Inside a y → Chained x y)
    (best g : Range) → ok best ≡ true → Inside a best → Inside b best → ok g ≡ true → Found ok a b best (narrower a b best g) × (Inside a g → Inside b g → Inside (narrower a b best g) g)
narrower_found ok a b chain best g kb p q kg =
    let test = is_inside a g && (is_inside b g && is_inside g best) in
    cond_both test g best (λ r. Found ok a b best r × (Inside a g → Inside b g → Inside r g))
    (λ t.
    let s = and_parts (is_inside a g) (is_inside b g && is_inside g best) t in
    let s' = and_parts (is_inside b g) (is_inside g best) s.1 in
    (record { is_allowed = kg; first = inside_tells a g s.0; second = inside_tells b g s'.0; within = inside_tells g best s'.1 }, λ _ _. omega arith))
    (λ f. (
      record { is_allowed = kb; first = p; second = q; within = omega arith },
      λ x y. ⊎_elim (λ i. i)
          (λ i. absurd (both_ways test f (and_from _ _ (inside_from a g x) (and_from _ _ (inside_from b g y) (inside_from g best i)))))
          (chain best g kb kg p x),
    ))

abbrev AllOk : (Range → Bool) → List Range → Type 0
AllOk ok [] = Unit {0}
AllOk ok (g ∷ gs) = (ok g ≡ true) × AllOk ok gs

narrowest_found : (ok : Range → Bool) (a b : Range) (chain : (x y : Range) → ok x ≡ true → ok y ≡ true → Inside a x → Inside a y → Chained x y)
    (gs : List Range) (best : Range) → AllOk ok gs → ok best ≡ true → Inside a best → Inside b best
    → Found ok a b best (fold (narrower a b) best gs) × ((k : Range) → among k gs ≡ true → Inside a k → Inside b k → Inside (fold (narrower a b) best gs) k)
narrowest_found ok a b chain [] best all kb p q =
    (record { is_allowed = kb; first = p; second = q; within = omega arith }, λ k e _ _. absurd (both_ways false refl e))
narrowest_found ok a b chain (g ∷ gs) best all kb p q =
    let one = narrower_found ok a b chain best g kb p q all.0 in
    let f = one.0 in
    let rest = narrowest_found ok a b chain gs (narrower a b best g) all.1 f.is_allowed f.first f.second in
    let r = rest.0 in (
      record { is_allowed = r.is_allowed; first = r.first; second = r.second; within = inside_trans _ _ _ r.within f.within },
      λ k e x y. ⊎_elim
          (λ s. let w = same_tells k g s in inside_trans _ _ _ r.within (rw w (one.1 (rw w at x) (rw w at y))))
          (λ m. rest.1 k m x y)
          (or_cases (same k g) (among k gs) e),
    )

groups_ok : (m : ℕ) (all gs : List Range) → well_nested m gs ≡ true → ((g : Range) → among g gs ≡ true → among g all ≡ true) → AllOk (allowed m all) gs
groups_ok m all [] e sub = tt
groups_ok m all (g ∷ gs) e sub =
    let q = and_parts (in_tree m g) (all_pass (nested g) gs && well_nested m gs) e in
    let t = and_parts (nat_lt g.low g.high) (nat_lt g.high m) q.0 in
    let low = ltb-true _ _ t.0 in
    let r = and_parts (all_pass (nested g) gs) (well_nested m gs) q.1 in (
      allowed_from m all g (record { ordered = omega arith; below = ltb-true _ _ t.1 })
          (or_right (g.low == g.high) _ (or_right (same g (whole m)) _ (sub g (or_left (same g g) (among g gs) (same_from g g refl))))),
      groups_ok m all gs r.1 (λ h i. sub h (or_right (same h g) (among h gs) i)),
    )

whole_ok : (m : ℕ) (gs : List Range) → 0 < m → allowed m gs (whole m) ≡ true
whole_ok m gs h =
    allowed_from m gs (whole m) (record { ordered = omega arith; below = omega arith })
    (or_right (0 == m - 1) _ (or_left (same (whole m) (whole m)) (among (whole m) gs) (same_from (whole m) (whole m) refl)))

-- a leaf that contains both a and b is both
around : (m : ℕ) (gs : List Range) (a b j k : Range) → InTree m a → InTree m b → is_inside b a ≡ false → Inside j (whole m) → (among k gs ≡ true → Inside j k) → Inside a k → Inside b k → Kind m gs k → Inside j k
around m gs a b j k ta tb f w g p q (leaf l) = absurd (both_ways (is_inside b a) f (inside_from b a (omega arith)))
around m gs a b j k ta tb f w g p q (tree e) = rw e w
around m gs a b j k ta tb f w g p q (group i) = g i

cover_least : (m : ℕ) (gs : List Range) → well_nested m gs ≡ true → (a b : Range) → allowed m gs a ≡ true → allowed m gs b ≡ true → Least (allowed m gs) a b (cover m gs a b)
cover_least m gs e a b ka kb =
    let ok = allowed m gs in
    let ta = in_tree_tells m gs a ka in
    let tb = in_tree_tells m gs b kb in
    let chain : (x y : Range) → ok x ≡ true → ok y ≡ true → Inside a x → Inside a y → Chained x y =
    λ x y kx ky p q. allowed_chained a.low m gs e x y kx ky (omega arith) (omega arith) in
    let found = narrowest_found ok a b chain gs (whole m) (groups_ok m gs gs e (λ _ i. i)) (whole_ok m gs (omega arith)) (omega arith) (omega arith) in
    let r = found.0 in
    cond_both (is_inside b a) a (fold (narrower a b) (whole m) gs) (Least ok a b)
    (λ s. record { is_allowed = ka; first = omega arith; second = inside_tells b a s; least = λ k _ p _. p })
    (λ f. record {
      is_allowed = r.is_allowed;
      first = r.first;
      second = r.second;
      least = λ k kk p q. around m gs a b _ k ta tb f r.within (λ i. found.1 k i p q) p q (kind m gs k kk);
    })

pub in_whole : (m : ℕ) (gs : List Range) (a : Range) → allowed m gs a ≡ true → Inside a (whole m)
in_whole m gs a e = let t = in_tree_tells m gs a e in omega arith

pub taxonomy_facts : (m : ℕ) (gs : List Range) → well_nested m gs ≡ true → Facts (λ v. nat_lt v m) (allowed m gs) (cover m gs) (share (whole m))
taxonomy_facts m gs e = record {
  ordered = λ a p. (in_tree_tells m gs a p).ordered;
  points = λ v p. allowed_from m gs (point v) (record { ordered = omega arith; below = ltb-true _ _ p }) (or_left (v == v) _ (eq-eqb v v refl));
  lossless = λ v _. share_point (whole m) v;
  joins = cover_least m gs e;
  monotone = λ a b _ _ h. share_mono (whole m) a b h;
  bounded = λ a p. share_le (whole m) a (in_whole m gs a p);
}
