-- A split is a partition: each record of the cluster is in exactly one part, and each part names k owners at least.
use Rattle.std.proofs.Common.{◌≡◌, ℕ, zero, suc, ◌+◌, ◌-◌, ◌*◌, ◌<◌, ◌≤◌, Bool, true, false, cond, not, ◌||◌, eqb, ltb, leb, List, [], ◌∷◌, ◌++◌, map, length, Some, None, fold, filter, Option, sym, refl, ap, ◌∙◌, subst, inl, ⊎_elim, arith, length-take}
use Rattle.std.specs.List.{AllByRecursion}
use Rattle.std.specs.Option.{option_map}
use Rattle.std.proofs.ByRecursion.{all_kept_by}
use Rattle.std.proofs.lemmas.Bool.{eqb-true, eq-eqb, leb-true, leb-false, ltb-false, cond_both}
use Rattle.domain.specs.Meaning.{Meaning}
use Rattle.rules.specs.declared.Entry.{Entry}
use Rattle.rules.specs.Choosing.{In, total, chosen, lowest, different, listed, in_order, lowest_ranked}
use Rattle.rules.specs.Clusters.{owner, owners, size}
use Rattle.rules.specs.Split.{part, outside, nearness, around, next_part, cut_on, cut, growth, joins_first, settle, split, parts}
use Rattle.rules.specs.Promise.{one}
use Rattle.rules.proofs.Totals.{true_false, mark, eqb_sym, total_push, total_same, total_kept, kept_both, total_lowest_ranked, length_in_order, length_total, marked_once, in_total, in_kept, in_map, all_in, Picked, chosen_is}
use Rattle.rules.proofs.Numbers.{times, listed_le, once_listed, times_listed, in_times, in_listed, times_kept, times_different, different_once, fewer, lowest_some}

-- how often an owner is in the parts
abbrev pub grouped : ℕ → List (List ℕ) → ℕ
grouped o ps = total (λ p. times o p) ps

abbrev pub Apart : List ℕ → Type 0
Apart ws = (o : ℕ) → times o ws ≤ 1

-- ---- the next part

abbrev Next : Meaning → ℕ → List Entry → List ℕ → Option (List ℕ) → Type 0
Next m k es ws None = length ws < k
Next m k es ws (Some p) = (k ≤ length ws) × ((seed : ℕ) × In ws seed × (p ≡ around m k es ws seed))

next_is : (m : Meaning) (k : ℕ) (es : List Entry) (ws : List ℕ) → 1 ≤ k → Next m k es ws (next_part m k es ws)
next_is m k es ws pos = go (leb k (length ws)) refl (chosen ws) (chosen_is ws)
  where
    go : (b : Bool) → leb k (length ws) ≡ b → (o : Option ℕ) → Picked ws o → Next m k es ws (cond b (option_map (around m k es ws) o) None)
    go true e (Some x) i = (leb-true k (length ws) e, (x, i, refl))
    go true e None i = omega (arith, i, pos)
    go false e o i = leb-false k (length ws) e

-- an owner and his part
module _ (m : Meaning) (k : ℕ) (es : List Entry) (ws : List ℕ) (seed : ℕ) (i : In ws seed) (once : Apart ws) where
  near : List ℕ
  near = lowest_ranked (nearness m es seed) (k - 1) (outside (seed ∷ []) ws)

  near_le : (o : ℕ) → times o near ≤ cond (not (listed o (seed ∷ []))) (times o ws) 0
  unfolding near
  near_le o = omega (arith, total_lowest_ranked (one o) (k - 1) (nearness m es seed) (outside (seed ∷ []) ws), times_kept o (λ w. not (listed w (seed ∷ []))) ws)

  around_le : (o : ℕ) → times o (around m k es ws seed) ≤ times o ws
  unfolding near
  around_le o = go (eqb seed o) refl (near_le o)
    where
      go : (b : Bool) → eqb seed o ≡ b → times o near ≤ cond (not (b || false)) (times o ws) 0 → cond b 1 0 + times o near ≤ times o ws
      go true e l = omega (arith, l, subst (λ z. 1 ≤ times z ws) (eqb-true seed o e) (in_times seed ws i))
      go false e l = omega (arith, l)

  around_rest : (o : ℕ) → times o (around m k es ws seed) + times o (outside (around m k es ws seed) ws) ≡ times o ws
  around_rest o = go (listed o p) (times_kept o (λ w. not (listed w p)) ws) (once_listed o p (omega (arith, around_le o, once o)))
    where
      p : List ℕ
      p = around m k es ws seed

      go : (b : Bool) → times o (outside (around m k es ws seed) ws) ≡ cond (not b) (times o ws) 0 → cond b 1 0 ≡ times o (around m k es ws seed) → times o (around m k es ws seed) + times o (outside (around m k es ws seed) ws) ≡ times o ws
      go true e f = omega (arith, e, f, around_le o, once o)
      go false e f = omega (arith, e, f)

  around_apart : Apart (outside (around m k es ws seed) ws)
  around_apart o = omega (arith, around_rest o, once o)

  rest_length : length ws ≤ length (outside (seed ∷ []) ws) + 1
  rest_length =
      let q : ℕ → Bool = λ w. listed w (seed ∷ []) in
      omega (arith, kept_both (λ _. 1) q ws, length_total ws, length_total (outside (seed ∷ []) ws), total_kept (λ _. 1) q ws, total_same (λ w. cond (q w) 1 0) (one seed) same ws, once seed)
    where
      or_none : (b : Bool) → ◌≡◌ {A = ℕ} (cond (b || false) 1 0) (cond b 1 0)
      or_none true = refl
      or_none false = refl

      same : (w : ℕ) → ◌≡◌ {A = ℕ} (cond (listed w (seed ∷ [])) 1 0) (one seed w)
      same w = or_none (eqb seed w) ∙ mark (eqb_sym seed w)

  around_length : 1 ≤ k → k ≤ length ws → k ≤ length (around m k es ws seed)
  around_length pos l =
      let zs = in_order (nearness m es seed) (outside (seed ∷ []) ws) in
      omega (arith, length-take (k - 1) zs, length_in_order (nearness m es seed) (outside (seed ∷ []) ws), rest_length, l, pos)

-- ---- the parts made and the owners left over have each owner as often as there was

pub cut_times : (m : Meaning) (k : ℕ) (es : List Entry) (n : ℕ) (ws : List ℕ) → 1 ≤ k → Apart ws → (o : ℕ) → grouped o (cut m k es n ws).made + times o (cut m k es n ws).left ≡ times o ws
cut_times m k es zero ws pos once o = omega arith
cut_times m k es (suc n) ws pos once o = go (next_part m k es ws) (next_is m k es ws pos) (λ p a. cut_times m k es n (outside p ws) pos a o)
  where
    go : (x : Option (List ℕ)) → Next m k es ws x → ((p : List ℕ) → Apart (outside p ws) → grouped o (cut m k es n (outside p ws)).made + times o (cut m k es n (outside p ws)).left ≡ times o (outside p ws))
        → grouped o (cut_on ws x (λ p. cut m k es n (outside p ws))).made + times o (cut_on ws x (λ p. cut m k es n (outside p ws))).left ≡ times o ws
    go None f ih = omega arith
    go (Some p) f ih =
        let x = f.1 in
        let e : p ≡ around m k es ws x.0 = x.2 in
        let a : Apart (outside p ws) = subst (λ z. Apart (outside z ws)) (sym e) (around_apart m k es ws x.0 x.1 once) in
        let r : times o p + times o (outside p ws) ≡ times o ws = subst (λ z. times o z + times o (outside z ws) ≡ times o ws) (sym e) (around_rest m k es ws x.0 x.1 once o) in
        omega (arith, ih p a, r)

abbrev pub Wide : ℕ → List (List ℕ) → Type 0
Wide k ps = AllByRecursion (λ p. k ≤ length p) ps

pub cut_wide : (m : Meaning) (k : ℕ) (es : List Entry) (n : ℕ) (ws : List ℕ) → 1 ≤ k → Apart ws → Wide k (cut m k es n ws).made
cut_wide m k es zero ws pos once = tt
cut_wide m k es (suc n) ws pos once = go (next_part m k es ws) (next_is m k es ws pos) (λ p a. cut_wide m k es n (outside p ws) pos a)
  where
    go : (x : Option (List ℕ)) → Next m k es ws x → ((p : List ℕ) → Apart (outside p ws) → Wide k (cut m k es n (outside p ws)).made) → Wide k (cut_on ws x (λ p. cut m k es n (outside p ws))).made
    go None f ih = tt
    go (Some p) f ih =
        let x = f.1 in
        let e : p ≡ around m k es ws x.0 = x.2 in
        (subst (λ z. k ≤ length z) (sym e) (around_length m k es ws x.0 x.1 once pos f.0), ih p (subst (λ z. Apart (outside z ws)) (sym e) (around_apart m k es ws x.0 x.1 once)))

pub cut_some : (m : Meaning) (k : ℕ) (es : List Entry) (n : ℕ) (ws : List ℕ) → 1 ≤ k → 1 ≤ n → k ≤ length ws → 1 ≤ length (cut m k es n ws).made
cut_some m k es zero ws pos b c = absurd (omega (arith, b))
cut_some m k es (suc n) ws pos b c = go (next_part m k es ws) (next_is m k es ws pos)
  where
    go : (x : Option (List ℕ)) → Next m k es ws x → 1 ≤ length (cut_on ws x (λ p. cut m k es n (outside p ws))).made
    go None f = absurd (omega (arith, f, c))
    go (Some p) f = omega arith

-- the seed leaves, so that there are fewer
outside_fewer : (p ws : List ℕ) (seed : ℕ) → In ws seed → listed seed p ≡ true → length (outside p ws) < length ws
outside_fewer p ws seed i e =
    let q : ℕ → Bool = λ w. listed w p in
    omega (arith, kept_both (λ _. 1) q ws, length_total ws, length_total (outside p ws), in_total (λ _. 1) (filter q ws) seed (in_kept q ws seed i e))

-- fewer than k owners are left over
cut_few : (m : Meaning) (k : ℕ) (es : List Entry) (n : ℕ) (ws : List ℕ) → 1 ≤ k → length ws ≤ n → length (cut m k es n ws).left < k
cut_few m k es zero ws pos l = omega (arith, pos, l)
cut_few m k es (suc n) ws pos l = go (next_part m k es ws) (next_is m k es ws pos) (λ p. cut_few m k es n (outside p ws) pos)
  where
    go : (x : Option (List ℕ)) → Next m k es ws x → ((p : List ℕ) → length (outside p ws) ≤ n → length (cut m k es n (outside p ws)).left < k) → length (cut_on ws x (λ p. cut m k es n (outside p ws))).left < k
    go None f ih = f
    go (Some p) f ih =
        let x = f.1 in
        let here : listed x.0 p ≡ true = subst (λ z. listed x.0 z ≡ true) (sym x.2) (in_listed x.0 (around m k es ws x.0) (inl refl)) in
        ih p (omega (arith, l, outside_fewer p ws x.0 x.1 here))

pub cut_ends : (m : Meaning) (k : ℕ) (es : List Entry) → 1 ≤ k → length (cut m k es (size es) (owners es)).left < k
cut_ends m k es pos = cut_few m k es (size es) (owners es) pos (omega arith)

-- ---- leftover owners

joins_times : (o w : ℕ) (q : List ℕ → Bool) (ps : List (List ℕ)) (p : List ℕ) → In ps p → q p ≡ true → grouped o (joins_first q w ps) ≡ grouped o ps + one o w
joins_times o w q [] p i e = absurd i
joins_times o w q (x ∷ ps) p i e = go (q x) refl (λ j. joins_times o w q ps p j e)
  where
    go : (b : Bool) → q x ≡ b → (In ps p → grouped o (joins_first q w ps) ≡ grouped o ps + one o w) → grouped o (cond b ((x ++ w ∷ []) ∷ ps) (x ∷ joins_first q w ps)) ≡ times o x + grouped o ps + one o w
    go true f ih = omega (arith, total_push (one o) x w)
    go false f ih = ⊎_elim (λ s. true_false (ap q s ∙ e) f) (λ j. omega (arith, ih j)) i

settle_times : (m : Meaning) (es : List Entry) (ps : List (List ℕ)) (w : ℕ) → 1 ≤ length ps → (o : ℕ) → grouped o (settle m es ps w) ≡ grouped o ps + one o w
settle_times m es [] w l o = absurd (omega (arith, l))
settle_times m es (p ∷ ps) w l o =
    let r = lowest_some (growth m es w) p ps in
    joins_times o w (λ q. eqb (growth m es w q) (lowest (growth m es w) (p ∷ ps))) (p ∷ ps) r.0 r.1 (eq-eqb _ _ r.2)

joins_length : (q : List ℕ → Bool) (w : ℕ) (ps : List (List ℕ)) → length (joins_first q w ps) ≡ length ps
joins_length q w [] = refl
joins_length q w (p ∷ ps) = go (q p) (joins_length q w ps)
  where
    go : (b : Bool) → length (joins_first q w ps) ≡ length ps → length (cond b ((p ++ w ∷ []) ∷ ps) (p ∷ joins_first q w ps)) ≡ suc (length ps)
    go true ih = refl
    go false ih = omega (arith, ih)

joins_wide : (k : ℕ) (q : List ℕ → Bool) (w : ℕ) (ps : List (List ℕ)) → Wide k ps → Wide k (joins_first q w ps)
joins_wide k q w [] a = tt
joins_wide k q w (p ∷ ps) a = go (q p) (joins_wide k q w ps a.1)
  where
    go : (b : Bool) → Wide k (joins_first q w ps) → Wide k (cond b ((p ++ w ∷ []) ∷ ps) (p ∷ joins_first q w ps))
    go true ih = (omega (arith, a.0, length_total (p ++ w ∷ []), total_push (λ _. 1) p w, length_total p), a.1)
    go false ih = (a.0, ih)

settles_times : (m : Meaning) (es : List Entry) (ws : List ℕ) (ps : List (List ℕ)) → 1 ≤ length ps → (o : ℕ) → grouped o (fold (settle m es) ps ws) ≡ grouped o ps + times o ws
settles_times m es [] ps l o = omega arith
settles_times m es (w ∷ ws) ps l o =
    omega (arith, settle_times m es ps w l o, settles_times m es ws (settle m es ps w) (omega (arith, l, joins_length (λ p. eqb (growth m es w p) (lowest (growth m es w) ps)) w ps)) o)

settles_wide : (m : Meaning) (es : List Entry) (k : ℕ) (ws : List ℕ) (ps : List (List ℕ)) → Wide k ps → Wide k (fold (settle m es) ps ws)
settles_wide m es k [] ps a = a
settles_wide m es k (w ∷ ws) ps a = settles_wide m es k ws (settle m es ps w) (joins_wide k (λ p. eqb (growth m es w p) (lowest (growth m es w) ps)) w ps a)

-- ---- the split as a whole

pub split_times : (m : Meaning) (k : ℕ) (es : List Entry) → 1 ≤ k → k ≤ size es → (o : ℕ) → grouped o (split m k es) ≡ cond (listed o (map owner es)) 1 0
split_times m k es pos l o =
    let c = cut m k es (size es) (owners es) in
    settles_times m es c.left c.made (cut_some m k es (size es) (owners es) pos (omega (arith, pos, l)) l) o
    ∙ cut_times m k es (size es) (owners es) pos (λ w. different_once w (map owner es)) o ∙ times_different o (map owner es)

pub split_wide : (m : Meaning) (k : ℕ) (es : List Entry) → 1 ≤ k → Wide k (split m k es)
split_wide m k es pos =
    let c = cut m k es (size es) (owners es) in
    settles_wide m es k c.left c.made (cut_wide m k es (size es) (owners es) pos (λ w. different_once w (map owner es)))

-- ---- the records of the parts

marks : (o : ℕ) (ps : List (List ℕ)) → grouped o ps ≤ 1 → total (λ p. cond (listed o p) 1 0) ps ≡ grouped o ps
marks o [] h = refl
marks o (p ∷ ps) h = omega (arith, once_listed o p (omega (arith, h)), marks o ps (omega (arith, h)))

abbrev pub totals : (Entry → ℕ) → List (List Entry) → ℕ
totals f ps = total (λ p. total f p) ps

-- one record more in the cluster
parts_cons : (f : Entry → ℕ) (e : Entry) (es : List Entry) (ps : List (List ℕ)) → totals f (map (part (e ∷ es)) ps) ≡ total (λ p. cond (listed (owner e) p) (f e) 0) ps + totals f (map (part es) ps)
parts_cons f e es [] = refl
parts_cons f e es (p ∷ ps) = go (listed (owner e) p) (parts_cons f e es ps)
  where
    go : (b : Bool) → totals f (map (part (e ∷ es)) ps) ≡ total (λ p. cond (listed (owner e) p) (f e) 0) ps + totals f (map (part es) ps)
        → total f (cond b (e ∷ part es p) (part es p)) + totals f (map (part (e ∷ es)) ps) ≡ (cond b (f e) 0 + total (λ p. cond (listed (owner e) p) (f e) 0) ps) + (total f (part es p) + totals f (map (part es) ps))
    go true ih = omega (arith, ih)
    go false ih = omega (arith, ih)

parts_none : (f : Entry → ℕ) (ps : List (List ℕ)) → totals f (map (part []) ps) ≡ 0
parts_none f [] = refl
parts_none f (p ∷ ps) = omega (arith, parts_none f ps)

parted : (f : Entry → ℕ) (es : List Entry) (ps : List (List ℕ)) → AllByRecursion (λ e. total (λ p. cond (listed (owner e) p) 1 0) ps ≡ 1) es → totals f (map (part es) ps) ≡ total f es
parted f [] ps a = parts_none f ps
parted f (e ∷ es) ps a = omega (arith, parts_cons f e es ps, marked_once (λ p. listed (owner e) p) (f e) ps a.0, parted f es ps a.1)

pub parts_total : (f : Entry → ℕ) (m : Meaning) (k : ℕ) (es : List Entry) → 1 ≤ k → totals f (parts m k es) ≡ total f es
parts_total f m k es pos = cond_both (ltb (size es) (2 * k)) (es ∷ []) (map (part es) (split m k es)) (λ ps. totals f ps ≡ total f es) (λ _. omega arith) (λ e.
    let big : 2 * k ≤ size es = ltb-false (size es) (2 * k) e in
    parted f es (split m k es) (all_in _ es (λ x i.
    let once : grouped (owner x) (split m k es) ≡ 1 = split_times m k es pos (omega (arith, big)) (owner x) ∙ mark (in_listed (owner x) (map owner es) (in_map owner es x i)) in
    marks (owner x) (split m k es) (omega (arith, once)) ∙ once)))

pub parts_all : (P : Entry → Type 0) (m : Meaning) (k : ℕ) (es : List Entry) → AllByRecursion P es → AllByRecursion (AllByRecursion P) (parts m k es)
parts_all P m k es a = cond_both (ltb (size es) (2 * k)) (es ∷ []) (map (part es) (split m k es)) (AllByRecursion (AllByRecursion P)) (λ _. (a, tt)) (λ _. each (split m k es))
  where
    each : (ps : List (List ℕ)) → AllByRecursion (AllByRecursion P) (map (part es) ps)
    each [] = tt
    each (p ∷ ps) = (all_kept_by (λ e. listed (owner e) p) P es a, each ps)

-- ---- a part names as many owners as it was made of

map_kept : (q : ℕ → Bool) (es : List Entry) → map owner (filter (λ e. q (owner e)) es) ≡ filter q (map owner es)
map_kept q [] = refl
map_kept q (e ∷ es) = go (q (owner e)) (map_kept q es)
  where
    go : (b : Bool) → map owner (filter (λ e. q (owner e)) es) ≡ filter q (map owner es) → map owner (cond b (e ∷ filter (λ e. q (owner e)) es) (filter (λ e. q (owner e)) es)) ≡ cond b (owner e ∷ filter q (map owner es)) (filter q (map owner es))
    go true ih = ap (λ ws. owner e ∷ ws) ih
    go false ih = ih

part_size : (es : List Entry) (p : List ℕ) → ((o : ℕ) → times o p ≤ cond (listed o (map owner es)) 1 0) → length p ≤ size (part es p)
part_size es p h = subst (λ ws. length p ≤ length (different ws)) (sym (map_kept (λ w. listed w p) es)) (fewer p (different kept) (λ o. go o (listed o ws) refl (listed o p) refl))
  where
    ws : List ℕ
    ws = map owner es

    kept : List ℕ
    kept = filter (λ w. listed w p) (map owner es)

    go : (o : ℕ) (a : Bool) → listed o (map owner es) ≡ a → (b : Bool) → listed o p ≡ b → times o p ≤ times o (different (filter (λ w. listed w p) (map owner es)))
    go o false e b f = omega (arith, h o, mark e)
    go o true e false f = omega (arith, once_listed o p (omega (arith, h o, mark e)), mark f)
    go o true e true f =
        let same : times o (filter (λ w. listed w p) (map owner es)) ≡ times o (map owner es) = times_kept o (λ w. listed w p) (map owner es) ∙ ap {B = ℕ} (λ t. cond t (times o (map owner es)) 0) f in
        let some : 1 ≤ times o (filter (λ w. listed w p) (map owner es)) = omega (arith, same, listed_le o (map owner es), mark e) in
        omega (arith, h o, mark e, times_different o (filter (λ w. listed w p) (map owner es)), mark (times_listed o (filter (λ w. listed w p) (map owner es)) some))

all_large : (es : List Entry) (k : ℕ) (ps : List (List ℕ)) → ((o : ℕ) → grouped o ps ≤ cond (listed o (map owner es)) 1 0) → Wide k ps → AllByRecursion (λ p. k ≤ size p) (map (part es) ps)
all_large es k [] h a = tt
all_large es k (p ∷ ps) h a = (omega (arith, a.0, part_size es p (λ o. omega (arith, h o))), all_large es k ps (λ o. omega (arith, h o)) a.1)

pub parts_large : (m : Meaning) (k : ℕ) (es : List Entry) → 1 ≤ k → k ≤ size es → AllByRecursion (λ p. k ≤ size p) (parts m k es)
parts_large m k es pos l = cond_both (ltb (size es) (2 * k)) (es ∷ []) (map (part es) (split m k es)) (AllByRecursion (λ p. k ≤ size p)) (λ _. (l, tt))
    (λ _. all_large es k (split m k es) (λ o. omega (arith, split_times m k es pos l o)) (split_wide m k es pos))
