-- Each owner's earliest record stands for him.
use Rattle.std.proofs.Common.{◌≡◌, ℕ, ◌+◌, ◌<◌, Bool, true, false, cond, not, ◌||◌, eqb, List, [], ◌∷◌, ◌++◌, map, length, get_or, take, filter, Option, sym, refl, ap, ◌∙◌}
use Rattle.std.specs.List.{AllByRecursion}
use Rattle.std.proofs.lemmas.List.{map-append, map_more, map_push, append-nil}
use Rattle.std.proofs.lemmas.List.Elements.{filter-append, filter_more}
use Rattle.std.proofs.lemmas.Bool.{eqb-true, eq-eqb, not-true}
use Rattle.rules.specs.declared.Entry.{Entry}
use Rattle.rules.specs.declared.Held.{Held}
use Rattle.rules.specs.Choosing.{listed}
use Rattle.rules.specs.Clusters.{owner, owners, records_of, members}
use Rattle.rules.specs.States.{stand_in}
use Rattle.rules.specs.Split.{since}
use Rattle.rules.proofs.Totals.{true_false, eqb_sym}
use Rattle.split.specs.declared.Member.{Member}
use Rattle.split.specs.Faces.{earliest, face, owner_of}
use Rattle.split.specs.Parted.{of_part, entries}

-- ---- filters

pub kept_map : {X Y : Type 0} (f : X → Y) (q : Y → Bool) (xs : List X) → map f (filter (λ x. q (f x)) xs) ≡ filter q (map f xs)
kept_map f q [] = refl
kept_map f q (x ∷ xs) = go (q (f x)) (kept_map f q xs)
  where
    go : (b : Bool) → map f (filter (λ x. q (f x)) xs) ≡ filter q (map f xs) → map f (cond b (x ∷ filter (λ x. q (f x)) xs) (filter (λ x. q (f x)) xs)) ≡ cond b (f x ∷ filter q (map f xs)) (filter q (map f xs))
    go true ih = ap (λ l. f x ∷ l) ih
    go false ih = ih

pub kept_all : {X : Type 0} (P Q : X → Type 0) (q : X → Bool) → ((x : X) → q x ≡ true → P x → Q x) → (xs : List X) → AllByRecursion P xs → AllByRecursion Q (filter q xs)
kept_all P Q q h [] a = tt
kept_all P Q q h (x ∷ xs) a = go (q x) refl (kept_all P Q q h xs a.1)
  where
    go : (b : Bool) → q x ≡ b → AllByRecursion Q (filter q xs) → AllByRecursion Q (cond b (x ∷ filter q xs) (filter q xs))
    go true e ih = (h x e a.0, ih)
    go false e ih = ih

-- ---- the members of a cluster, one held record more

pub members_more : (c : ℕ) (hs : List Held) (i : ℕ) (d : Held) → i < length hs → members c (take (i + 1) hs) ≡ members c (take i hs) ++ cond (eqb (get_or hs i d).label c) ((get_or hs i d).entry ∷ []) []
members_more c hs i d l =
    let q : Held → Bool = λ h. eqb h.label c in
    ap (map (λ h. h.entry)) (filter_more q hs i d l)
    ∙ map-append (λ h. h.entry) (filter q (take i hs)) (cond (q (get_or hs i d)) (get_or hs i d ∷ []) [])
    ∙ ap (λ l. members c (take i hs) ++ l) (one (q (get_or hs i d)))
  where
    one : (b : Bool) → map (λ h. h.entry) (cond b (get_or hs i d ∷ []) []) ≡ cond b ((get_or hs i d).entry ∷ []) []
    one true = refl
    one false = refl

-- all of one part, or of none
module _ (o : Option ℕ) (c : ℕ) (hs : List Held) (i : ℕ) (d : Held) (l : i < length hs) where
  gather_one : (b : Bool) → eqb (get_or hs i d).label c ≡ b → map (of_part o) (members c (take (i + 1) hs)) ≡ map (of_part o) (members c (take i hs)) ++ cond b (of_part o (get_or hs i d).entry ∷ []) []
  gather_one b t = ap (map (of_part o)) (members_more c hs i d l ∙ ap (λ t. members c (take i hs) ++ cond t ((get_or hs i d).entry ∷ []) []) t) ∙ go b
    where
      go : (b : Bool) → map (of_part o) (members c (take i hs) ++ cond b ((get_or hs i d).entry ∷ []) []) ≡ map (of_part o) (members c (take i hs)) ++ cond b (of_part o (get_or hs i d).entry ∷ []) []
      go true = map_push (of_part o) (members c (take i hs)) (get_or hs i d).entry
      go false = map-append (of_part o) (members c (take i hs)) []

  pub gather_takes : eqb (get_or hs i d).label c ≡ true → map (of_part o) (members c (take (i + 1) hs)) ≡ map (of_part o) (members c (take i hs)) ++ of_part o (get_or hs i d).entry ∷ []
  gather_takes t = gather_one true t

  pub gather_passes : eqb (get_or hs i d).label c ≡ false → map (of_part o) (members c (take (i + 1) hs)) ≡ map (of_part o) (members c (take i hs))
  gather_passes f = gather_one false f ∙ append-nil (map (of_part o) (members c (take i hs)))

-- ---- the earliest records

pub earliest_owners : (es : List Entry) → map owner (earliest es) ≡ owners es
earliest_owners [] = refl
earliest_owners (e ∷ es) = ap (λ ws. owner e ∷ ws) (kept_map owner (λ w. not (eqb w (owner e))) (earliest es) ∙ ap (filter (λ w. not (eqb w (owner e)))) (earliest_owners es))

-- a number that is not the one taken out
listed_other : (x w : ℕ) (ys : List ℕ) → eqb x w ≡ false → listed w (filter (λ y. not (eqb y x)) ys) ≡ listed w ys
listed_other x w [] n = refl
listed_other x w (y ∷ ys) n = go (eqb y x) refl (listed_other x w ys n)
  where
    go : (b : Bool) → eqb y x ≡ b → listed w (filter (λ y. not (eqb y x)) ys) ≡ listed w ys → listed w (cond (not b) (y ∷ filter (λ y. not (eqb y x)) ys) (filter (λ y. not (eqb y x)) ys)) ≡ (eqb y w || listed w ys)
    go true e ih = ih ∙ ap (λ t. t || listed w ys) (sym n ∙ ap (λ z. eqb z w) (sym (eqb-true y x e)))
    go false e ih = ap (λ t. eqb y w || t) ih

pub earliest_push : (es : List Entry) (e : Entry) → earliest (es ++ e ∷ []) ≡ earliest es ++ cond (listed (owner e) (map owner (earliest es))) [] (e ∷ [])
earliest_push [] e = refl
earliest_push (x ∷ es) e =
    ap (λ l. x ∷ filter q l) (earliest_push es e)
    ∙ ap (λ l. x ∷ l) (filter-append q (earliest es) (cond known [] (e ∷ [])) ∙ ap (λ l. filter q (earliest es) ++ l) (same (eqb (owner x) (owner e)) refl))
  where
    q : Entry → Bool
    q y = not (eqb (owner y) (owner x))

    known : Bool
    known = listed (owner e) (map owner (earliest es))

    passes : (b : Bool) → q e ≡ not b → filter q (cond known [] (e ∷ [])) ≡ cond (b || known) [] (e ∷ [])
    passes b s = go known
      where
        here : (c : Bool) → q e ≡ not c → filter q (e ∷ []) ≡ cond c [] (e ∷ [])
        here true s = ap (λ t. cond t (e ∷ []) []) s
        here false s = ap (λ t. cond t (e ∷ []) []) s

        or_true : (c : Bool) → [] ≡ cond (c || true) [] (e ∷ [])
        or_true true = refl
        or_true false = refl

        or_false : (c : Bool) → cond c [] (e ∷ []) ≡ cond (c || false) [] (e ∷ [])
        or_false true = refl
        or_false false = refl

        go : (k : Bool) → filter q (cond k [] (e ∷ [])) ≡ cond (b || k) [] (e ∷ [])
        go true = or_true b
        go false = here b s ∙ or_false b

    same : (b : Bool) → eqb (owner x) (owner e) ≡ b → filter q (cond known [] (e ∷ [])) ≡ cond (eqb (owner x) (owner e) || listed (owner e) (map owner (filter q (earliest es)))) [] (e ∷ [])
    same true t = passes true (ap not (eqb_sym (owner e) (owner x) ∙ t)) ∙ sym (ap (λ z. cond (z || listed (owner e) (map owner (filter q (earliest es)))) [] (e ∷ [])) t)
    same false f = passes false (ap not (eqb_sym (owner e) (owner x) ∙ f))
        ∙ ap (λ z. cond z [] (e ∷ [])) (sym (ap (listed (owner e)) (kept_map owner (λ w. not (eqb w (owner x))) (earliest es)) ∙ listed_other (owner x) (owner e) (map owner (earliest es)) f))
        ∙ sym (ap (λ z. cond (z || listed (owner e) (map owner (filter q (earliest es)))) [] (e ∷ [])) f)

-- the record stands for its owner, since its position
abbrev pub Stands : List Entry → Entry → Type 0
Stands es f = (stand_in es (owner f) ≡ f ∷ []) × (since (owner f) es ≡ f.position)

pub stands : (es : List Entry) → AllByRecursion (Stands es) (earliest es)
stands [] = tt
stands (e ∷ es) = (own (eqb (owner e) (owner e)) (eq-eqb (owner e) (owner e) refl), kept_all (Stands es) (Stands (e ∷ es)) (λ x. not (eqb (owner x) (owner e))) other (earliest es) (stands es))
  where
    own : (b : Bool) → b ≡ true → (take 1 (cond b (e ∷ records_of (owner e) es) (records_of (owner e) es)) ≡ e ∷ []) × (cond b e.position (since (owner e) es) ≡ e.position)
    own true t = (refl, refl)
    own false t = true_false t refl

    other : (f : Entry) → not (eqb (owner f) (owner e)) ≡ true → Stands es f → Stands (e ∷ es) f
    other f n s =
        let apart : eqb (owner e) (owner f) ≡ false = eqb_sym (owner e) (owner f) ∙ not-true (eqb (owner f) (owner e)) n in
        (ap (λ t. take 1 (cond t (e ∷ records_of (owner f) es) (records_of (owner f) es))) apart ∙ s.0, ap (λ t. cond t e.position (since (owner f) es)) apart ∙ s.1)

-- ---- the members' earliest records, one member more

module _ (ms : List Member) (i : ℕ) (d : Member) (l : i < length ms) where
  collect_one : (b : Bool) → listed (owner (get_or ms i d).entry) (map owner (earliest (entries (take i ms)))) ≡ b → earliest (entries (take (i + 1) ms)) ≡ earliest (entries (take i ms)) ++ cond b [] ((get_or ms i d).entry ∷ [])
  collect_one b k =
      ap earliest (map_more (λ x. x.entry) ms i d l) ∙ earliest_push (entries (take i ms)) (get_or ms i d).entry
      ∙ ap (λ z. earliest (entries (take i ms)) ++ cond z [] ((get_or ms i d).entry ∷ [])) k

  pub collect_known : listed (owner (get_or ms i d).entry) (map owner (earliest (entries (take i ms)))) ≡ true → earliest (entries (take (i + 1) ms)) ≡ earliest (entries (take i ms))
  collect_known k = collect_one true k ∙ append-nil (earliest (entries (take i ms)))

  pub collect_new : listed (owner (get_or ms i d).entry) (map owner (earliest (entries (take i ms)))) ≡ false → earliest (entries (take (i + 1) ms)) ≡ earliest (entries (take i ms)) ++ (get_or ms i d).entry ∷ []
  collect_new k = collect_one false k

pub face_owners : (ps : List (List ℕ)) (fs : List Entry) → map owner_of (map (face ps) fs) ≡ map owner fs
face_owners ps [] = refl
face_owners ps (f ∷ fs) = ap (λ l. owner f ∷ l) (face_owners ps fs)
