-- The next part, round by round: what the owners' parts are beside those of the rules.
use Rattle.std.proofs.Common.{◌≡◌, ℕ, zero, suc, ◌+◌, ◌-◌, ◌<◌, ◌≤◌, Bool, true, false, cond, not, ◌&&◌, ◌||◌, leb, List, [], ◌∷◌, ◌++◌, map, length, take, is_some, Some, None, filter, Option, sym, refl, ap, ◌∙◌, subst, arith}
use Rattle.std.specs.List.{AllByRecursion}
use Rattle.std.specs.Option.{option_map}
use Rattle.std.proofs.ByRecursion.{All-weaker, all_kept_by}
use Rattle.std.proofs.lemmas.Simd.{map-map}
use Rattle.std.proofs.lemmas.List.{append_assoc, append-nil, length-map, length_push}
use Rattle.std.proofs.lemmas.List.Sums.{length-filter, count_by-le-length}
use Rattle.std.proofs.lemmas.Bool.{eq-eqb, le-leb, lt-leb}
use Rattle.domain.specs.Meaning.{Meaning}
use Rattle.keeper.specs.Leasts.{leasts}
use Rattle.keeper.proofs.Leasts.{leasts_map}
use Rattle.rules.specs.declared.Entry.{Entry}
use Rattle.rules.specs.Choosing.{head, chosen, listed, Rank, lower, among, in_order, lowest_ranked}
use Rattle.rules.specs.Clusters.{owner, owners, size, cost}
use Rattle.rules.specs.Split.{outside, nearness, around, next_part, Cut, cut, cut_on}
use Rattle.rules.proofs.Totals.{all_in_order}
use Rattle.rules.proofs.KeeperRanks.{keeper_rank, leasts_of_keeper}
use Rattle.split.specs.declared.faces.Face.{Face}
use Rattle.split.specs.declared.near.Neighbour.{Neighbour}
use Rattle.split.specs.Faces.{earliest, face, owner_of, place_in, lacks_part}
use Rattle.split.specs.Near.{rank_of, neighbour, names, remaining, others_than, joined, Cuts}
use Rattle.split.proofs.Owners.{kept_map, earliest_owners, Stands, stands}

-- ---- ranks that agree give the same order

kept_agree : {X : Type 0} (p q : X → Bool) (xs : List X) → AllByRecursion (λ x. p x ≡ q x) xs → filter p xs ≡ filter q xs
kept_agree p q [] a = refl
kept_agree p q (x ∷ xs) a = ap (λ b. cond b (x ∷ filter p xs) (filter p xs)) a.0 ∙ ap (λ l. cond (q x) (x ∷ l) l) (kept_agree p q xs a.1)

order_agrees : {X : Type 0} (r s : X → Rank) (xs : List X) → AllByRecursion (λ x. r x ≡ s x) xs → in_order r xs ≡ in_order s xs
order_agrees r s [] a = refl
order_agrees {X = X} r s (x ∷ xs) a =
    ap (among r x) (order_agrees r s xs a.1)
    ∙ ap (λ l. l ++ x ∷ filter (λ y. not (lower (r y) (r x))) zs) (kept_agree (λ y. lower (r y) (r x)) (λ y. lower (s y) (s x)) zs low)
    ∙ ap (λ l. filter (λ y. lower (s y) (s x)) zs ++ x ∷ l) (kept_agree (λ y. not (lower (r y) (r x))) (λ y. not (lower (s y) (s x))) zs (All-weaker _ _ (λ y e. ap not e) zs low))
  where
    zs : List X
    zs = in_order s xs

    low : AllByRecursion (λ y. lower (r y) (r x) ≡ lower (s y) (s x)) (in_order s xs)
    low = All-weaker (λ y. r y ≡ s y) (λ y. lower (r y) (r x) ≡ lower (s y) (s x)) (λ y e. ap (λ z. lower z (r x)) e ∙ ap (lower (s y)) a.0) (in_order s xs) (all_in_order (λ y. r y ≡ s y) s xs a.1)

-- ---- the nearest, by stand-ins and by owners

-- the rank of a neighbour, as the rules have ranks
seen : Meaning → Entry → Entry → Rank
seen m s e = record { first = cost m (s ∷ e ∷ []); second = e.position }

nearness_of : (m : Meaning) (es : List Entry) (s e : Entry) → Stands es s → Stands es e → seen m s e ≡ nearness m es (owner s) (owner e)
unfolding seen
nearness_of m es s e p q = sym (λ i. record { first = cost m (p.0 i ++ q.0 i); second = q.1 i })

-- ranked before or after a function, the n least are the same
least_map : {X Y : Type 0} (rank : Y → Rank) (f : X → Y) (n : ℕ) (xs : List X) → map f (lowest_ranked (λ x. rank (f x)) n xs) ≡ lowest_ranked rank n (map f xs)
least_map rank f n xs =
    ap (map f) (sym (leasts_of_keeper (λ x. rank (f x)) n xs))
    ∙ leasts_map (λ y. keeper_rank (rank y)) f n xs
    ∙ leasts_of_keeper rank n (map f xs)

pub nearest_names : (m : Meaning) (es : List Entry) (s : Entry) (n : ℕ) (os : List Entry) → Stands es s → AllByRecursion (Stands es) os → names (leasts rank_of n (map (neighbour m s) os)) ≡ lowest_ranked (nearness m es (owner s)) n (map owner os)
unfolding seen
nearest_names m es s n os p a =
    ap names (sym (leasts_map rank_of (neighbour m s) n os))
    ∙ map-map (λ x. x.owner) (neighbour m s) (leasts (λ e. rank_of (neighbour m s e)) n os)
    ∙ ap (map owner) (leasts_of_keeper (seen m s) n os)
    ∙ ap (λ l. map owner (take n l)) (order_agrees (seen m s) (λ e. nearness m es (owner s) (owner e)) os (All-weaker (Stands es) _ (λ e q. nearness_of m es s e p q) os a))
    ∙ least_map (nearness m es (owner s)) owner n os

-- ---- one part more

place_push : (ps : List (List ℕ)) (p : List ℕ) (w : ℕ) → place_in (ps ++ p ∷ []) w ≡ cond (is_some (place_in ps w)) (place_in ps w) (cond (listed w p) (Some (length ps)) None)
place_push [] p w = refl
place_push (q ∷ ps) p w = go (listed w q) (place_push ps p w)
  where
    next : (o : Option ℕ) (b : Bool) → option_map suc (cond (is_some o) o (cond b (Some (length ps)) None)) ≡ cond (is_some (option_map suc o)) (option_map suc o) (cond b (Some (suc (length ps))) None)
    next (Some i) b = refl
    next None true = refl
    next None false = refl

    go : (b : Bool) → place_in (ps ++ p ∷ []) w ≡ cond (is_some (place_in ps w)) (place_in ps w) (cond (listed w p) (Some (length ps)) None)
        → cond b (Some 0) (option_map suc (place_in (ps ++ p ∷ []) w)) ≡ cond (is_some (cond b (Some 0) (option_map suc (place_in ps w)))) (cond b (Some 0) (option_map suc (place_in ps w))) (cond (listed w p) (Some (suc (length ps))) None)
    go true ih = refl
    go false ih = ap (option_map suc) ih ∙ next (place_in ps w) (listed w p)

joined_face : (ps : List (List ℕ)) (p : List ℕ) (j : ℕ) (e : Entry) → length ps ≡ j → joined p j (face ps e) ≡ face (ps ++ p ∷ []) e
joined_face ps p j e l = subst (λ n. joined p n (face ps e) ≡ face (ps ++ p ∷ []) e) l (go (place_in ps (owner e)) (listed (owner e) p) ∙ ap with_place (sym (place_push ps p (owner e))))
  where
    with_place : Option ℕ → Face
    with_place o = record { stand_in = e; part = o }

    go : (o : Option ℕ) (b : Bool) → cond (not (is_some o) && b) (with_place (Some (length ps))) (with_place o) ≡ with_place (cond (is_some o) o (cond b (Some (length ps)) None))
    go (Some i) b = refl
    go None true = refl
    go None false = refl

pub joined_faces : (ps : List (List ℕ)) (p : List ℕ) (j : ℕ) (fs : List Entry) → length ps ≡ j → map (joined p j) (map (face ps) fs) ≡ map (face (ps ++ p ∷ [])) fs
joined_faces ps p j [] l = refl
joined_faces ps p j (e ∷ fs) l = ap (λ x. x ∷ map (joined p j) (map (face ps) fs)) (joined_face ps p j e l) ∙ ap (λ z. face (ps ++ p ∷ []) e ∷ z) (joined_faces ps p j fs l)

-- ---- who remains

pub remaining_faces : (ps : List (List ℕ)) (fs : List Entry) → remaining (map (face ps) fs) ≡ filter (λ e. not (is_some (place_in ps (owner e)))) fs
remaining_faces ps [] = refl
remaining_faces ps (e ∷ fs) = go (not (is_some (place_in ps (owner e)))) (remaining_faces ps fs)
  where
    go : (b : Bool) → remaining (map (face ps) fs) ≡ filter (λ e. not (is_some (place_in ps (owner e)))) fs → map (λ f. f.stand_in) (cond b (face ps e ∷ filter lacks_part (map (face ps) fs)) (filter lacks_part (map (face ps) fs))) ≡ cond b (e ∷ filter (λ e. not (is_some (place_in ps (owner e)))) fs) (filter (λ e. not (is_some (place_in ps (owner e)))) fs)
    go true ih = ap (λ l. e ∷ l) ih
    go false ih = ih

-- each round leaves fewer
pub joined_fewer : (ws : List ℕ) (j : ℕ) (fs : List Face) → length (remaining (map (joined ws j) fs)) ≤ length (remaining fs)
joined_fewer ws j [] = omega arith
joined_fewer ws j (f ∷ fs) = go f.part refl (listed (owner_of f) ws) (joined_fewer ws j fs)
  where
    go : (o : Option ℕ) → f.part ≡ o → (b : Bool) → length (remaining (map (joined ws j) fs)) ≤ length (remaining fs)
        → length (remaining (cond (not (is_some o) && b) (record { stand_in = f.stand_in; part = Some j }) (record { stand_in = f.stand_in; part = o }) ∷ map (joined ws j) fs)) ≤ length (remaining (record { stand_in = f.stand_in; part = o } ∷ fs))
    go (Some i) e b ih = ih
    go None e true ih = omega (arith, ih)
    go None e false ih = omega (arith, ih)

pub joined_fewer_by_one : (ws : List ℕ) (j : ℕ) (fs : List Face) (s : Entry) → head (remaining fs) ≡ Some s → length (remaining (map (joined (owner s ∷ ws) j) fs)) < length (remaining fs)
joined_fewer_by_one ws j [] s h = absurd (never h)
  where
    never : None ≡ Some s → ⊥
    never e = let z : ◌≡◌ {A = ℕ} 0 1 = cc in omega arith
joined_fewer_by_one ws j (f ∷ fs) s h = go f.part h (joined_fewer_by_one ws j fs s)
  where
    first : Some f.stand_in ≡ Some s → listed (owner_of f) (owner s ∷ ws) ≡ true
    first e = let same : f.stand_in ≡ s = cc in ap (λ b. b || listed (owner_of f) ws) (eq-eqb (owner s) (owner_of f) (ap owner (sym same)))

    go : (o : Option ℕ) → head (remaining (record { stand_in = f.stand_in; part = o } ∷ fs)) ≡ Some s → (head (remaining fs) ≡ Some s → length (remaining (map (joined (owner s ∷ ws) j) fs)) < length (remaining fs))
        → length (remaining (cond (not (is_some o) && listed (owner_of f) (owner s ∷ ws)) (record { stand_in = f.stand_in; part = Some j }) (record { stand_in = f.stand_in; part = o }) ∷ map (joined (owner s ∷ ws) j) fs)) < length (remaining (record { stand_in = f.stand_in; part = o } ∷ fs))
    go (Some i) e ih = ih e
    go None e ih = subst (λ b. length (remaining (cond b (record { stand_in = f.stand_in; part = Some j }) (record { stand_in = f.stand_in; part = None }) ∷ map (joined (owner s ∷ ws) j) fs)) < suc (length (remaining fs))) (sym (first e)) (omega (arith, joined_fewer (owner s ∷ ws) j fs))

-- ---- a round

head_all : {X : Type 0} (P : X → Type 0) (xs : List X) (x : X) → AllByRecursion P xs → head xs ≡ Some x → P x
head_all {X = X} P [] x a e = absurd (never e)
  where
    never : ◌≡◌ {A = Option X} None (Some x) → ⊥
    never e = let z : ◌≡◌ {A = ℕ} 0 1 = cc in omega arith
head_all P (y ∷ xs) x a e = let same : y ≡ x = cc in subst P same a.0

head_map : {X Y : Type 0} (f : X → Y) (xs : List X) (x : X) → head xs ≡ Some x → head (map f xs) ≡ Some (f x)
head_map {X = X} f [] x e = absurd (never e)
  where
    never : ◌≡◌ {A = Option X} None (Some x) → ⊥
    never e = let z : ◌≡◌ {A = ℕ} 0 1 = cc in omega arith
head_map f (y ∷ xs) x e = let same : y ≡ x = cc in ap (λ z. Some (f z)) same

next_around : (m : Meaning) (k : ℕ) (es : List Entry) (ws p : List ℕ) (w : ℕ) → head ws ≡ Some w → next_part m k es ws ≡ Some p → p ≡ around m k es ws w
next_around m k es ws p w h = go (leb k (length ws)) (chosen ws) h
  where
    go : (b : Bool) (o : Option ℕ) → o ≡ Some w → cond b (option_map (around m k es ws) o) None ≡ Some p → p ≡ around m k es ws w
    go true (Some v) h e = let same : v ≡ w = cc in let part : around m k es ws v ≡ p = cc in sym part ∙ ap (around m k es ws) same
    go true None h e = absurd (let z : ◌≡◌ {A = ℕ} 0 1 = cc in omega arith)
    go false o h e = absurd (let z : ◌≡◌ {A = ℕ} 0 1 = cc in omega arith)

stands_remaining : (es : List Entry) (ps : List (List ℕ)) (fs : List Face) → fs ≡ map (face ps) (earliest es) → AllByRecursion (Stands es) (remaining fs)
stands_remaining es ps fs e =
    subst (AllByRecursion (Stands es)) (sym (ap remaining e ∙ remaining_faces ps (earliest es))) (all_kept_by (λ x. not (is_some (place_in ps (owner x)))) (Stands es) (earliest es) (stands es))

-- the first that remains and those nearest to him are the next part
pub gathered : (m : Meaning) (n j : ℕ) (es : List Entry) (ps : List (List ℕ)) (p : List ℕ) (s : Entry) (fs : List Face) (items : List Neighbour) → fs ≡ map (face ps) (earliest es) → length ps ≡ j → head (remaining fs) ≡ Some s
    → items ≡ leasts rank_of n (map (neighbour m s) (others_than s (remaining fs))) → next_part m (n + 1) es (map owner (remaining fs)) ≡ Some p → map (joined (owner s ∷ names items) j) fs ≡ map (face (ps ++ p ∷ [])) (earliest es)
gathered m n j es ps p s fs items e l h its next =
    let rem = remaining fs in
    let ws = map owner rem in
    let all = stands_remaining es ps fs e in
    let own = head_all (Stands es) rem s all h in
    let near : names items ≡ lowest_ranked (nearness m es (owner s)) n (outside (owner s ∷ []) ws) =
    ap names its ∙ nearest_names m es s n (others_than s rem) own (all_kept_by (λ x. not (listed (owner x) (owner s ∷ []))) (Stands es) rem all)
    ∙ ap (lowest_ranked (nearness m es (owner s)) n) (kept_map owner (λ w. not (listed w (owner s ∷ []))) rem) in
    let count : n ≡ (n + 1) - 1 = omega arith in
    let whole : owner s ∷ names items ≡ p =
    ap (λ l. owner s ∷ l) (near ∙ ap (λ i. lowest_ranked (nearness m es (owner s)) i (outside (owner s ∷ []) ws)) count) ∙ sym (next_around m (n + 1) es ws p (owner s) (head_map owner rem s h) next) in
    ap (λ us. map (joined us j) fs) whole ∙ ap (map (joined p j)) e ∙ joined_faces ps p j (earliest es) l

-- ---- the rounds

-- the parts ps ahead of those of a cut
abbrev pub after : List (List ℕ) → Cut → Cut
after ps c = record { made = ps ++ c.made; left = c.left }

-- so many parts were made, and the rest of the rules' rounds makes the others
pub record Making (m : Meaning) (k : ℕ) (es : List Entry) (fs : List Face) (made : ℕ) : Type 0 where
  pub ps : List (List ℕ)
  pub rounds : ℕ
  pub long : length ps ≡ made
  pub faced : fs ≡ map (face ps) (earliest es)
  pub enough : length (remaining fs) ≤ rounds
  pub runs : after ps (cut m k es rounds (map owner (remaining fs))) ≡ cut m k es (size es) (owners es)

none_placed : (fs : List Entry) → remaining (map (face []) fs) ≡ fs
none_placed [] = refl
none_placed (e ∷ fs) = ap (λ l. e ∷ l) (none_placed fs)

pub making_starts : (m : Meaning) (k : ℕ) (es : List Entry) (fs : List Face) → fs ≡ map (face []) (earliest es) → Making m k es fs 0
making_starts m k es fs e =
    let rem : map owner (remaining fs) ≡ owners es = ap (λ l. map owner (remaining l)) e ∙ ap (map owner) (none_placed (earliest es)) ∙ earliest_owners es in
    record {
      ps = [];
      rounds = size es;
      long = refl;
      faced = e;
      enough = omega (arith, ap length rem, length-map (remaining fs) owner);
      runs = ap (λ ws. cut m k es (size es) ws) rem;
    }

next_some : (m : Meaning) (k : ℕ) (es : List Entry) (ws : List ℕ) → 1 ≤ k → k ≤ length ws → (p : List ℕ) × (next_part m k es ws ≡ Some p)
next_some m k es [] pos l = absurd (omega (arith, pos, l))
next_some m k es (w ∷ ws) pos l = (around m k es (w ∷ ws) w, ap (λ b. cond b (Some (around m k es (w ∷ ws) w)) None) (le-leb k (length (w ∷ ws)) l))

kept_twice : {X : Type 0} (p q r : X → Bool) → ((x : X) → r x ≡ (p x && q x)) → (xs : List X) → filter q (filter p xs) ≡ filter r xs
kept_twice p q r h [] = refl
kept_twice p q r h (x ∷ xs) = go (p x) (kept_twice p q r h xs) ∙ ap (λ b. cond b (x ∷ filter r xs) (filter r xs)) (sym (h x))
  where
    go : (b : Bool) → filter q (filter p xs) ≡ filter r xs → filter q (cond b (x ∷ filter p xs) (filter p xs)) ≡ cond (b && q x) (x ∷ filter r xs) (filter r xs)
    go true ih = ap (λ l. cond (q x) (x ∷ l) l) ih
    go false ih = ih

-- those that remain after a part are those outside it
left_outside : (ps : List (List ℕ)) (p : List ℕ) (fs : List Entry) → map owner (remaining (map (face (ps ++ p ∷ [])) fs)) ≡ outside p (map owner (remaining (map (face ps) fs)))
left_outside ps p fs =
    left (ps ++ p ∷ []) ∙ sym (kept_twice (λ w. not (is_some (place_in ps w))) (λ w. not (listed w p)) (λ w. not (is_some (place_in (ps ++ p ∷ []) w))) either (map owner fs)) ∙ ap (outside p) (sym (left ps))
  where
    left : (qs : List (List ℕ)) → map owner (remaining (map (face qs) fs)) ≡ filter (λ w. not (is_some (place_in qs w))) (map owner fs)
    left qs = ap (map owner) (remaining_faces qs fs) ∙ kept_map owner (λ w. not (is_some (place_in qs w))) fs

    split : (o : Option ℕ) (b : Bool) → not (is_some (cond (is_some o) o (cond b (Some (length ps)) None))) ≡ (not (is_some o) && not b)
    split (Some i) b = refl
    split None true = refl
    split None false = refl

    either : (w : ℕ) → not (is_some (place_in (ps ++ p ∷ []) w)) ≡ (not (is_some (place_in ps w)) && not (listed w p))
    either w = ap (λ o. not (is_some o)) (place_push ps p w) ∙ split (place_in ps w) (listed w p)

cut_step : (m : Meaning) (k : ℕ) (es : List Entry) (n : ℕ) (ws p : List ℕ) (ps : List (List ℕ)) → next_part m k es ws ≡ Some p → after (ps ++ p ∷ []) (cut m k es n (outside p ws)) ≡ after ps (cut m k es (suc n) ws)
cut_step m k es n ws p ps e =
    let rest = cut m k es n (outside p ws) in
    ap (λ l. record { made = l; left = rest.left }) (append_assoc ps (p ∷ []) rest.made) ∙ sym (ap (λ o. after ps (cut_on ws o (λ p. cut m k es n (outside p ws)))) e)

pub making_goes_on : (m : Meaning) (k : ℕ) (es : List Entry) (fs gs : List Face) (made : ℕ) → 1 ≤ k → k ≤ length (remaining fs) → length (remaining gs) < length (remaining fs)
    → ((ps : List (List ℕ)) (p : List ℕ) → fs ≡ map (face ps) (earliest es) → length ps ≡ made → next_part m k es (map owner (remaining fs)) ≡ Some p → gs ≡ map (face (ps ++ p ∷ [])) (earliest es))
    → Making m k es fs made → Making m k es gs (made + 1)
making_goes_on m k es fs gs made pos l less next so = go so.rounds so.enough so.runs
  where
    ws : List ℕ
    ws = map owner (remaining fs)

    some : (p : List ℕ) × (next_part m k es ws ≡ Some p)
    some = next_some m k es ws pos (omega (arith, l, length-map (remaining fs) owner))

    gone : gs ≡ map (face (so.ps ++ some.0 ∷ [])) (earliest es)
    gone = next so.ps some.0 so.faced so.long some.1

    out : outside some.0 ws ≡ map owner (remaining gs)
    out = ap (λ z. outside some.0 (map owner (remaining z))) so.faced ∙ sym (left_outside so.ps some.0 (earliest es)) ∙ ap (λ z. map owner (remaining z)) (sym gone)

    go : (n : ℕ) → length (remaining fs) ≤ n → after so.ps (cut m k es n (map owner (remaining fs))) ≡ cut m k es (size es) (owners es) → Making m k es gs (made + 1)
    go zero b r = absurd (omega (arith, pos, l, b))
    go (suc n) b r = record {
      ps = so.ps ++ some.0 ∷ [];
      rounds = n;
      long = length_push so.ps some.0 ∙ ap (λ i. i + 1) so.long;
      faced = gone;
      enough = omega (arith, less, b);
      runs = ap (λ us. after (so.ps ++ some.0 ∷ []) (cut m k es n us)) (sym out) ∙ cut_step m k es n ws some.0 so.ps some.1 ∙ r;
    }

cut_over : (m : Meaning) (k : ℕ) (es : List Entry) (n : ℕ) (ws : List ℕ) → length ws < k → cut m k es n ws ≡ record { made = []; left = ws }
cut_over m k es zero ws l = refl
cut_over m k es (suc n) ws l = ap (λ b. cut_on ws (cond b (option_map (around m k es ws) (chosen ws)) None) (λ p. cut m k es n (outside p ws))) (lt-leb k (length ws) l)

pub making_ends : (m : Meaning) (k : ℕ) (es : List Entry) (fs : List Face) (made : ℕ) → length (remaining fs) < k → Making m k es fs made → Cuts m k es fs made
making_ends m k es fs made l so =
    let ws = map owner (remaining fs) in
    let end : after so.ps (record { made = []; left = ws }) ≡ cut m k es (size es) (owners es) = ap (after so.ps) (sym (cut_over m k es so.rounds ws (omega (arith, l, length-map (remaining fs) owner)))) ∙ so.runs in
    let parts : so.ps ≡ (cut m k es (size es) (owners es)).made = sym (append-nil so.ps) ∙ ap (λ c. c.made) end in
    record { faces = so.faced ∙ ap (λ ps. map (face ps) (earliest es)) parts; count = sym so.long ∙ ap length parts; left = ap (λ c. c.left) end }

-- ---- none remains

pub head_none : (xs : List Entry) → head xs ≡ None → length xs ≡ 0
head_none [] e = refl
head_none (x ∷ xs) e = absurd (let z : ◌≡◌ {A = ℕ} 0 1 = cc in omega arith)

pub no_next : (m : Meaning) (k : ℕ) (es xs : List Entry) (p : List ℕ) → head xs ≡ None → next_part m k es (map owner xs) ≡ Some p → ⊥
no_next m k es [] p e h = go (leb k 0) h
  where
    go : (b : Bool) → cond b (option_map (around m k es []) None) None ≡ Some p → ⊥
    go true h = let z : ◌≡◌ {A = ℕ} 0 1 = cc in omega arith
    go false h = let z : ◌≡◌ {A = ℕ} 0 1 = cc in omega arith
no_next m k es (x ∷ xs) p e h = let z : ◌≡◌ {A = ℕ} 0 1 = cc in omega arith

pub remaining_length : (fs : List Face) → length (remaining fs) ≤ length fs
remaining_length fs = omega (arith, length-map (filter lacks_part fs) (λ f. f.stand_in), length-filter lacks_part fs, count_by-le-length lacks_part fs)
