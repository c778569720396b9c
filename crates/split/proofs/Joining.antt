-- A leftover owner joins a part: members and boxes beside the rules' parts.
use Rattle.std.proofs.Common.{◌≡◌, ℕ, zero, suc, ◌+◌, ◌-◌, ◌<◌, ◌≤◌, Bool, true, false, cond, ◌||◌, eqb, List, [], ◌∷◌, ◌++◌, map, length, get_or, set, Some, None, Option, sym, refl, ap, ◌∙◌, subst, inl, inr, arith}
use Rattle.std.specs.List.{AllByRecursion}
use Rattle.std.specs.Option.{option_map}
use Rattle.std.proofs.ByRecursion.{All-get_or, All-from_get_or, All-set}
use Rattle.std.proofs.lemmas.List.Elements.{filter_agree}
use Rattle.std.proofs.lemmas.List.{get_or-map, get_or-set_same, map-set, length-map, length_push}
use Rattle.std.proofs.lemmas.Bool.{eqb-true, eq-eqb, ne_eqb, ltb-true, ltb-false}
use Rattle.std.proofs.lemmas.Bool.Decides.{nat_tests}
use Rattle.domain.specs.Meaning.{Meaning}
use Rattle.domain.specs.Boxes.{box_loss}
use Rattle.rules.specs.declared.Entry.{Entry}
use Rattle.rules.specs.Choosing.{In, lowest, listed}
use Rattle.rules.specs.Clusters.{owner, owners, cost}
use Rattle.rules.specs.States.{stand_in}
use Rattle.rules.specs.Promise.{one}
use Rattle.rules.specs.Split.{part, growth, joins_first, settle}
use Rattle.rules.proofs.Totals.{eqb_sym, one_self, total_push, in_total, length_total, in_all, in_kept, map_in}
use Rattle.rules.proofs.Numbers.{times, listed_le, in_listed, listed_in, times_different, different_once, lowest_le, lowest_some}
use Rattle.rules.proofs.Parts.{grouped}
use Rattle.rules.proofs.Around.{boxes_stand}
use Rattle.split.specs.declared.Member.{Member}
use Rattle.split.specs.declared.Part.{Part}
use Rattle.split.specs.Faces.{place_in}
use Rattle.split.specs.Parted.{of_part, says, marked, part_of}
use Rattle.split.specs.Settling.{box_growth, FirstLeastGrown, moved, member, Beside, ApartIn}
use Rattle.split.proofs.Blanks.{no_part}
use Rattle.split.proofs.Marked.{marked_of}

-- ---- places

unlisted : (o : ℕ) (p : List ℕ) → times o p ≤ 0 → listed o p ≡ false
unlisted o p l = go (listed o p) (listed_le o p)
  where
    go : (b : Bool) → cond b 1 0 ≤ times o p → b ≡ false
    go true h = absurd (omega (arith, h, l))
    go false h = refl

-- an owner in no part
place_none : (o : ℕ) (ps : List (List ℕ)) → grouped o ps ≤ 0 → place_in ps o ≡ None
place_none o [] l = refl
place_none o (p ∷ ps) l =
    ap (λ b. cond b (Some 0) (option_map suc (place_in ps o))) (unlisted o p (omega (arith, l))) ∙ ap (option_map suc) (place_none o ps (omega (arith, l)))

none_listed : (o : ℕ) (ps : List (List ℕ)) (j : ℕ) → grouped o ps ≤ 0 → listed o (get_or ps j []) ≡ false
none_listed o [] j l = refl
none_listed o (p ∷ ps) zero l = unlisted o p (omega (arith, l))
none_listed o (p ∷ ps) (suc j) l = none_listed o ps j (omega (arith, l))

-- an owner in one part at most
pub place_tells : (o : ℕ) (ps : List (List ℕ)) (j : ℕ) → grouped o ps ≤ 1 → says j (place_in ps o) ≡ listed o (get_or ps j [])
place_tells o [] j l = refl
place_tells o (p ∷ ps) zero l = go (listed o p) (place_in ps o)
  where
    go : (b : Bool) (x : Option ℕ) → says 0 (cond b (Some 0) (option_map suc x)) ≡ b
    go true x = refl
    go false (Some i) = ne_eqb (suc i) 0 (λ e. omega (arith, e))
    go false None = refl
place_tells o (p ∷ ps) (suc j) l = go (listed o p) (listed_le o p) (place_tells o ps j (omega (arith, l)))
  where
    next : (x : Option ℕ) → says (suc j) (option_map suc x) ≡ says j x
    next (Some i) = grind (arith, nat_tests)
    next None = refl

    go : (b : Bool) → cond b 1 0 ≤ times o p → says j (place_in ps o) ≡ listed o (get_or ps j []) → says (suc j) (cond b (Some 0) (option_map suc (place_in ps o))) ≡ listed o (get_or ps j [])
    go true h ih = ne_eqb 0 (suc j) (λ e. omega (arith, e)) ∙ sym (none_listed o ps j (omega (arith, h, l)))
    go false h ih = next (place_in ps o) ∙ ih

-- w joins part b
abbrev pub join_at : ℕ → ℕ → List (List ℕ) → List (List ℕ)
join_at b w ps = set ps b (get_or ps b [] ++ w ∷ [])

listed_push : (v w : ℕ) (p : List ℕ) → listed v (p ++ w ∷ []) ≡ (listed v p || eqb w v)
listed_push v w [] = or_none (eqb w v)
  where
    or_none : (b : Bool) → (b || false) ≡ b
    or_none true = refl
    or_none false = refl
listed_push v w (x ∷ p) = go (eqb x v) (listed_push v w p)
  where
    go : (b : Bool) → listed v (p ++ w ∷ []) ≡ (listed v p || eqb w v) → (b || listed v (p ++ w ∷ [])) ≡ ((b || listed v p) || eqb w v)
    go true ih = refl
    go false ih = ih

place_joined : (ps : List (List ℕ)) (b w v : ℕ) → b < length ps → place_in ps w ≡ None → place_in (join_at b w ps) v ≡ cond (eqb v w) (Some b) (place_in ps v)
place_joined [] b w v l n = absurd (omega (arith, l))
place_joined (p ∷ ps) zero w v l n = ap (λ t. cond t (Some 0) (option_map suc (place_in ps v))) (listed_push v w p) ∙ go (eqb v w) (eqb_sym w v)
  where
    or_true : (t : Bool) → cond (t || true) (Some 0) (option_map suc (place_in ps v)) ≡ Some 0
    or_true true = refl
    or_true false = refl

    or_false : (t : Bool) → cond (t || false) (Some 0) (option_map suc (place_in ps v)) ≡ cond t (Some 0) (option_map suc (place_in ps v))
    or_false true = refl
    or_false false = refl

    go : (b : Bool) → eqb w v ≡ b → cond (listed v p || eqb w v) (Some 0) (option_map suc (place_in ps v)) ≡ cond b (Some 0) (cond (listed v p) (Some 0) (option_map suc (place_in ps v)))
    go true e = ap (λ t. cond (listed v p || t) (Some 0) (option_map suc (place_in ps v))) e ∙ or_true (listed v p)
    go false e = ap (λ t. cond (listed v p || t) (Some 0) (option_map suc (place_in ps v))) e ∙ or_false (listed v p)
place_joined (p ∷ ps) (suc b) w v l n = go (eqb v w) refl (listed w p) refl (place_in ps w) refl n (λ e. place_joined ps b w v (omega (arith, l)) e)
  where
    go : (t : Bool) → eqb v w ≡ t → (u : Bool) → listed w p ≡ u → (x : Option ℕ) → place_in ps w ≡ x → cond u (Some 0) (option_map suc x) ≡ None
        → (place_in ps w ≡ None → place_in (join_at b w ps) v ≡ cond (eqb v w) (Some b) (place_in ps v))
        → cond (listed v p) (Some 0) (option_map suc (place_in (join_at b w ps) v)) ≡ cond t (Some (suc b)) (cond (listed v p) (Some 0) (option_map suc (place_in ps v)))
    go t e true f x g n ih = absurd (let z : ◌≡◌ {A = ℕ} 0 1 = cc in omega arith)
    go t e false f (Some i) g n ih = absurd (let z : ◌≡◌ {A = ℕ} 0 1 = cc in omega arith)
    go true e false f None g n ih =
        ap (λ y. cond (listed v p) (Some 0) (option_map suc y)) (ih g ∙ ap (λ z. cond z (Some b) (place_in ps v)) e)
        ∙ ap (λ z. cond z (Some 0) (Some (suc b))) (ap (λ z. listed z p) (eqb-true v w e) ∙ f)
    go false e false f None g n ih = ap (λ y. cond (listed v p) (Some 0) (option_map suc y)) (ih g ∙ ap (λ z. cond z (Some b) (place_in ps v)) e)

grouped_joined : (o : ℕ) (ps : List (List ℕ)) (b w : ℕ) → b < length ps → grouped o (join_at b w ps) ≡ grouped o ps + one o w
grouped_joined o [] b w l = absurd (omega (arith, l))
grouped_joined o (p ∷ ps) zero w l = omega (arith, total_push (one o) p w)
grouped_joined o (p ∷ ps) (suc b) w l = omega (arith, grouped_joined o ps b w (omega (arith, l)))

-- ---- members and records

members_joined : (b w : ℕ) (ps : List (List ℕ)) (es : List Entry) → b < length ps → place_in ps w ≡ None → map (moved w b) (map (member ps) es) ≡ map (member (join_at b w ps)) es
members_joined b w ps [] l n = refl
members_joined b w ps (e ∷ es) l n =
    ap (λ x. x ∷ map (moved w b) (map (member ps) es)) (go (eqb (owner e) w) ∙ ap (λ o. of_part o e) (sym (place_joined ps b w (owner e) l n))) ∙ ap (λ l. member (join_at b w ps) e ∷ l) (members_joined b w ps es l n)
  where
    go : (t : Bool) → cond t (of_part (Some b) e) (member ps e) ≡ of_part (cond t (Some b) (place_in ps (owner e))) e
    go true = refl
    go false = refl

-- the members of part j are what the part's owners have
pub marked_part : (j : ℕ) (ps : List (List ℕ)) (es : List Entry) → ((o : ℕ) → grouped o ps ≤ 1) → marked j (map (member ps) es) ≡ part es (get_or ps j [])
marked_part j ps es once =
    marked_of j (λ e. place_in ps (owner e)) es ∙ filter_agree (λ e. says j (place_in ps (owner e))) (λ e. listed (owner e) (get_or ps j [])) (λ e. place_tells (owner e) ps j (once (owner e))) es

-- ---- the part that grows least

module _ (q : List ℕ → Bool) (w : ℕ) where
  joins_at : (ps : List (List ℕ)) (b : ℕ) → b < length ps → q (get_or ps b []) ≡ true → ((i : ℕ) → i < b → q (get_or ps i []) ≡ false) → joins_first q w ps ≡ join_at b w ps
  joins_at [] b l t f = absurd (omega (arith, l))
  joins_at (p ∷ ps) zero l t f = ap (λ z. cond z ((p ++ w ∷ []) ∷ ps) (p ∷ joins_first q w ps)) t
  joins_at (p ∷ ps) (suc b) l t f =
      ap (λ z. cond z ((p ++ w ∷ []) ∷ ps) (p ∷ joins_first q w ps)) (f 0 (omega arith)) ∙ ap (λ l. p ∷ l) (joins_at ps b (omega (arith, l)) t (λ i k. f (suc i) (omega (arith, k))))

  in_getD : (ps : List (List ℕ)) (b : ℕ) → b < length ps → In ps (get_or ps b [])
  in_getD [] b l = absurd (omega (arith, l))
  in_getD (p ∷ ps) zero l = inl refl
  in_getD (p ∷ ps) (suc b) l = inr (in_getD ps b (omega (arith, l)))

-- the first of the least keys
lowest_at : (key : List ℕ → ℕ) (ps : List (List ℕ)) (b : ℕ) → b < length ps → ((i : ℕ) → i < length ps → key (get_or ps b []) ≤ key (get_or ps i [])) → lowest key ps ≡ key (get_or ps b [])
lowest_at key [] b l h = absurd (omega (arith, l))
lowest_at key (p ∷ ps) b l h =
    let some = lowest_some key p ps in
    let above : key (get_or (p ∷ ps) b []) ≤ key some.0 = in_all (λ y. key (get_or (p ∷ ps) b []) ≤ key y) (p ∷ ps) some.0 (All-from_get_or (λ y. key (get_or (p ∷ ps) b []) ≤ key y) (p ∷ ps) [] h) some.1 in
    omega (arith, above, some.2, lowest_le key (p ∷ ps) (get_or (p ∷ ps) b []) (in_getD (λ _. true) 0 (p ∷ ps) b l))

module _ (m : Meaning) (es : List Entry) (w : ℕ) (e : Entry) (stands : stand_in es w ≡ e ∷ []) where
  grows : (p : List ℕ) → 1 ≤ length (part es p) → box_growth m e (part_of m (part es p)) ≡ growth m es w p
  grows p l =
      ap (λ b. box_loss m b - cost m (part es p)) (sym (boxes_stand.wider m (part es p) e l)) ∙ ap (λ s. cost m (part es p ++ s) - cost m (part es p)) (sym stands)

  settles_at : (ps : List (List ℕ)) (boxes : List Part) (b : ℕ) → boxes ≡ map (λ p. part_of m (part es p)) ps → AllByRecursion (λ p. 1 ≤ length (part es p)) ps → FirstLeastGrown m e boxes b → (b < length ps) × (settle m es ps w ≡ join_at b w ps)
  settles_at ps boxes b told all first = (
    short,
    joins_at (λ p. eqb (growth m es w p) (lowest (growth m es w) ps)) w ps b short
        (eq-eqb (key b) (lowest (growth m es w) ps) (sym low))
        (λ i l. ne_eqb (key i) (lowest (growth m es w) ps) (λ s. absurd (omega (arith, s, low, strict i l)))),
  )
    where
      key : ℕ → ℕ
      key i = growth m es w (get_or ps i [])

      many : length boxes ≡ length ps
      many = ap length told ∙ length-map ps (λ p. part_of m (part es p))

      at : (i : ℕ) → i < length ps → box_growth m e (get_or boxes i no_part) ≡ growth m es w (get_or ps i [])
      at i l =
          ap (λ x. box_growth m e (get_or x i no_part)) told ∙ ap (box_growth m e) (get_or-map (λ p. part_of m (part es p)) ps i [] no_part l)
          ∙ grows (get_or ps i []) (All-get_or (λ p. 1 ≤ length (part es p)) ps i [] l all)

      short : b < length ps
      short = omega (arith, first.0, many)

      below : (i : ℕ) → i < length ps → growth m es w (get_or ps b []) ≤ growth m es w (get_or ps i [])
      below i l = omega (arith, at b short, at i l, ltb-false (box_growth m e (get_or boxes i no_part)) (box_growth m e (get_or boxes b no_part)) (first.1 i no_part (omega (arith, l, many))))

      low : lowest (growth m es w) ps ≡ growth m es w (get_or ps b [])
      low = lowest_at (growth m es w) ps b short below

      strict : (i : ℕ) → i < b → growth m es w (get_or ps b []) < growth m es w (get_or ps i [])
      strict i l = omega (arith, at b short, at i (omega (arith, l, short)), ltb-true (box_growth m e (get_or boxes b no_part)) (box_growth m e (get_or boxes i no_part)) (first.2 i no_part l))

-- ---- parts that have owners have records

some_record : (es : List Entry) (p : List ℕ) → 1 ≤ length p → ((o : ℕ) → times o p ≤ times o (owners es)) → 1 ≤ length (part es p)
some_record es [] l h = absurd (omega (arith, l))
some_record es (x ∷ p) l h =
    let known : listed x (map owner es) ≡ true = is_true (listed x (map owner es)) (omega (arith, h x, one_self x, times_different x (map owner es))) in
    let r = map_in owner es x (listed_in x (map owner es) known) in
    let kept : In (part es (x ∷ p)) r.0 = in_kept (λ e. listed (owner e) (x ∷ p)) es r.0 r.1 (in_listed (owner r.0) (x ∷ p) (inl (sym r.2))) in
    omega (arith, in_total (λ _. 1) (part es (x ∷ p)) r.0 kept, length_total (part es (x ∷ p)))
  where
    is_true : (b : Bool) → 1 ≤ cond b 1 0 → b ≡ true
    is_true true l = refl
    is_true false l = absurd (omega (arith, l))

all_some : (es : List Entry) (ps : List (List ℕ)) → AllByRecursion (λ p. 1 ≤ length p) ps → ((o : ℕ) → grouped o ps ≤ times o (owners es)) → AllByRecursion (λ p. 1 ≤ length (part es p)) ps
all_some es [] a h = tt
all_some es (p ∷ ps) a h = (some_record es p a.0 (λ o. omega (arith, h o)), all_some es ps a.1 (λ o. omega (arith, h o)))

-- ---- one leftover owner

module _ (m : Meaning) (es : List Entry) (ps : List (List ℕ)) (w : ℕ) (ws : List ℕ) (e : Entry) (ms out : List Member) (boxes told : List Part) (b : ℕ)
    (so : Beside m es ps ms boxes) (apart : ApartIn es ps (w ∷ ws)) (stands : stand_in es w ≡ e ∷ []) (first : FirstLeastGrown m e boxes b)
    (move : out ≡ map (moved w b) ms) (retell : told ≡ set boxes b (part_of m (marked b out))) where
  found : (b < length ps) × (settle m es ps w ≡ join_at b w ps)
  found = settles_at m es w e stands ps boxes b so.told (all_some es ps apart.some (λ o. omega (arith, apart.once o))) first

  fresh : place_in ps w ≡ None
  fresh = place_none w ps (omega (arith, apart.once w, one_self w, different_once w (map owner es)))

  after_apart : ApartIn es (join_at b w ps) ws
  after_apart = record {
    some = All-set (λ p. 1 ≤ length p) ps b (get_or ps b [] ++ w ∷ []) (omega (arith, length_push (get_or ps b []) w)) apart.some;
    once = λ o. omega (arith, apart.once o, grouped_joined o ps b w found.0);
  }

  members_are : out ≡ map (member (join_at b w ps)) es
  members_are = move ∙ ap (map (moved w b)) so.placed ∙ members_joined b w ps es found.0 fresh

  box_is : marked b out ≡ part es (get_or ps b [] ++ w ∷ [])
  box_is =
      ap (marked b) members_are ∙ marked_part b (join_at b w ps) es (λ o. omega (arith, after_apart.once o, different_once o (map owner es)))
      ∙ ap (part es) (get_or-set_same ps b (get_or ps b [] ++ w ∷ []) [] found.0)

  pub settled_beside : Beside m es (settle m es ps w) out told
  settled_beside = subst (λ qs. Beside m es qs out told) (sym found.1) (record {
    placed = members_are;
    told = retell ∙ ap (λ l. set l b (part_of m (marked b out))) so.told ∙ ap (λ l. set (map (λ p. part_of m (part es p)) ps) b (part_of m l)) box_is ∙ sym (map-set (λ p. part_of m (part es p)) ps b (get_or ps b [] ++ w ∷ []));
  })

  pub settled_apart : ApartIn es (settle m es ps w) ws
  settled_apart = subst (λ qs. ApartIn es qs ws) (sym found.1) after_apart
