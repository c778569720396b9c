-- Owners, members and boxes of held records that grow by one.
use Rattle.std.proofs.Common.{◌≡◌, ℕ, ◌+◌, ◌≤◌, Bool, true, false, cond, not, ◌&&◌, ◌||◌, eqb, ltb, List, [], ◌∷◌, ◌++◌, map, length, take, fold, filter, sym, refl, ap, ◌∙◌, Option, Some, None, unwrap_or, ⊎_elim, arith}
use Rattle.std.specs.List.{list_any, enumerate_from}
use Rattle.std.proofs.lemmas.List.{append_assoc, append-nil, map-append, length-append, take_all, take-append-le, length-take}
use Rattle.std.proofs.lemmas.List.Elements.{filter-append}
use Rattle.std.proofs.lemmas.Bool.{eq-eqb, ne_eqb, lt-ltb, le-ltb, cases_lt}
use Rattle.domain.specs.Meaning.{Meaning}
use Rattle.domain.specs.Boxes.{point_box}
use Rattle.rules.specs.declared.Entry.{Entry}
use Rattle.rules.specs.declared.Held.{Held}
use Rattle.rules.specs.Choosing.{different, listed}
use Rattle.rules.specs.Clusters.{owner, owners, size, values, records, members, Box, no_box, widened, box_of}
use Rattle.pool.specs.Tables as tables
use Rattle.rules.proofs.Totals.{eqb_sym}
use Rattle.rules.proofs.Numbers.{once_listed, times_different, different_once}
use Rattle.rules.proofs.Choices.{pushed}

-- ---- listed numbers

marked_same : (a b : Bool) → ◌≡◌ {A = ℕ} (cond a 1 0) (cond b 1 0) → a ≡ b
marked_same true true e = refl
marked_same true false e = absurd (omega (arith, e))
marked_same false true e = absurd (omega (arith, e))
marked_same false false e = refl

pub listed_different : (o : ℕ) (xs : List ℕ) → listed o (different xs) ≡ listed o xs
listed_different o xs = marked_same _ _ (once_listed o (different xs) (different_once o xs) ∙ times_different o xs)

-- a number is new, or one of those ahead of it
pub different_push : (xs : List ℕ) (x : ℕ) → different (xs ++ x ∷ []) ≡ different xs ++ cond (listed x xs) [] (x ∷ [])
different_push [] x = refl
different_push (y ∷ ys) x = ap (λ zs. y ∷ filter (λ z. not (eqb z y)) zs) (different_push ys x) ∙ ap (λ zs. y ∷ zs) (filter-append (λ z. not (eqb z y)) (different ys) (cond (listed x ys) [] (x ∷ []))) ∙ ap (λ zs. y ∷ (filter (λ z. not (eqb z y)) (different ys) ++ zs)) (last (eqb y x) (listed x ys) refl)
  where
    last : (b l : Bool) → eqb y x ≡ b → filter (λ z. not (eqb z y)) (cond l [] (x ∷ [])) ≡ cond (b || l) [] (x ∷ [])
    last true true e = refl
    last true false e = ap (λ t. cond (not t) (x ∷ []) []) (eqb_sym x y ∙ e)
    last false true e = refl
    last false false e = ap (λ t. cond (not t) (x ∷ []) []) (eqb_sym x y ∙ e)

-- ---- owners

pub owners_push : (es : List Entry) (e : Entry) → owners (es ++ e ∷ []) ≡ owners es ++ cond (listed (owner e) (owners es)) [] (owner e ∷ [])
owners_push es e = ap different (map-append owner es (e ∷ [])) ∙ different_push (map owner es) (owner e) ∙ ap (λ t. owners es ++ cond t [] (owner e ∷ [])) (sym (listed_different (owner e) (map owner es)))

pub size_push : (es : List Entry) (e : Entry) → size (es ++ e ∷ []) ≡ size es + cond (listed (owner e) (owners es)) 0 1
size_push es e = ap length (owners_push es e) ∙ length-append (owners es) (cond (listed (owner e) (owners es)) [] (owner e ∷ [])) ∙ ap (λ n. size es + n) (last (listed (owner e) (owners es)))
  where
    last : (b : Bool) → length (cond b [] (owner e ∷ [])) ≡ cond b 0 1
    last true = refl
    last false = refl

pub size_le : (es : List Entry) → size es ≤ length es
size_le es = go [] es (omega arith)
  where
    step : (b : Bool) → cond b 0 1 ≤ 1
    step true = omega arith
    step false = omega arith

    go : (es fs : List Entry) → size es ≤ length es → size (es ++ fs) ≤ length (es ++ fs)
    go es [] l = rw append-nil l
    go es (f ∷ fs) l =
        let more = go (es ++ f ∷ []) fs (omega (arith, l, size_push es f, length-append es (f ∷ []), step (listed (owner f) (owners es)))) in
        rw append_assoc at more

-- ---- looking for an owner

-- one of the records is the owner's
pub any_named : (w : ℕ) (hs : List Held) → list_any (λ h. eqb (owner h.entry) w) hs ≡ listed w (owners (records hs))
any_named w hs = go hs ∙ sym (listed_different w (map owner (records hs)))
  where
    go : (hs : List Held) → list_any (λ h. eqb (owner h.entry) w) hs ≡ listed w (map owner (records hs))
    go [] = refl
    go (h ∷ hs) = ap (λ b. eqb (owner h.entry) w || b) (go hs)

-- one of the cluster's records is
pub any_member : (c w : ℕ) (hs : List Held) → list_any (λ h. eqb h.label c && eqb (owner h.entry) w) hs ≡ listed w (owners (members c hs))
any_member c w hs = go hs ∙ any_named w (filter (λ h. eqb h.label c) hs)
  where
    front : (b t l : Bool) (h : Held) (ks : List Held) → l ≡ list_any (λ h. eqb (owner h.entry) w) ks → (b && eqb (owner h.entry) w || l) ≡ list_any (λ h. eqb (owner h.entry) w) (cond b (h ∷ ks) ks)
    front true t l h ks e = ap (λ b. eqb (owner h.entry) w || b) e
    front false t l h ks e = e

    go : (hs : List Held) → list_any (λ h. eqb h.label c && eqb (owner h.entry) w) hs ≡ list_any (λ h. eqb (owner h.entry) w) (filter (λ h. eqb h.label c) hs)
    go [] = refl
    go (h ∷ hs) = front (eqb h.label c) true _ h _ (go hs)

-- ---- one record more

pub records_push : (hs : List Held) (h : Held) → records (hs ++ h ∷ []) ≡ records hs ++ h.entry ∷ []
records_push hs h = map-append (λ (h : Held). h.entry) hs (h ∷ [])

pub members_push : (c : ℕ) (hs : List Held) (h : Held) → members c (hs ++ h ∷ []) ≡ members c hs ++ cond (eqb h.label c) (h.entry ∷ []) []
members_push c hs h = pushed c hs h (eqb h.label c) refl

pub members_joined : (c : ℕ) (hs : List Held) (h : Held) → h.label ≡ c → members c (hs ++ h ∷ []) ≡ members c hs ++ h.entry ∷ []
members_joined c hs h e = pushed c hs h true (eq-eqb _ _ e)

pub members_same : (c : ℕ) (hs : List Held) (h : Held) → (h.label ≡ c → ⊥) → members c (hs ++ h ∷ []) ≡ members c hs
members_same c hs h n = pushed c hs h false (ne_eqb _ _ n) ∙ append-nil (members c hs)

-- an owner counts at his earliest record
module _ (chosen : List Held → List Entry) (q : Held → Bool) (push : (hs : List Held) (h : Held) → chosen (hs ++ h ∷ []) ≡ chosen hs ++ cond (q h) (h.entry ∷ []) []) where
  abbrev pub is_earliest : List Held → ℕ × Held → Bool
  is_earliest hs p = q p.1 && not (listed (owner p.1.entry) (owners (chosen (take p.0 hs))))

  count_from : (all pre hs : List Held) (n : ℕ) → pre ++ hs ≡ all → length pre ≡ n → size (chosen pre) + length (filter (is_earliest all) (enumerate_from n hs)) ≡ size (chosen all)
  count_from all pre [] n e l = omega (arith, ap (λ ks. size (chosen ks)) (sym (append-nil pre) ∙ e))
  count_from all pre (h ∷ hs) n e l = go (q h) (listed (owner h.entry) (owners (chosen pre))) refl refl (count_from all (pre ++ h ∷ []) hs (n + 1) (append_assoc pre (h ∷ []) hs ∙ e) (length-append pre (h ∷ []) ∙ ap (λ k. k + 1) l))
    where
      ahead : take n all ≡ pre
      ahead = ap (take n) (sym e) ∙ take-append-le n pre (h ∷ hs) (omega (arith, l)) ∙ take_all n pre (omega (arith, l))

      front : (s : Bool) → is_earliest all (n, h) ≡ s → length (filter (is_earliest all) (enumerate_from n (h ∷ hs))) ≡ cond s 1 0 + length (filter (is_earliest all) (enumerate_from (n + 1) hs))
      front true f = omega (arith, ap (λ t. length (cond t ((n, h) ∷ filter (is_earliest all) (enumerate_from (n + 1) hs)) (filter (is_earliest all) (enumerate_from (n + 1) hs)))) f)
      front false f = omega (arith, ap (λ t. length (cond t ((n, h) ∷ filter (is_earliest all) (enumerate_from (n + 1) hs)) (filter (is_earliest all) (enumerate_from (n + 1) hs)))) f)

      test : (b t : Bool) → q h ≡ b → listed (owner h.entry) (owners (chosen pre)) ≡ t → is_earliest all (n, h) ≡ (b && not t)
      test b t f k = ap (λ ks. q h && not (listed (owner h.entry) (owners (chosen ks)))) ahead ∙ ap (λ c. c && not (listed (owner h.entry) (owners (chosen pre)))) f ∙ ap (λ c. b && not c) k

      grown : (b t : Bool) → q h ≡ b → listed (owner h.entry) (owners (chosen pre)) ≡ t → size (chosen (pre ++ h ∷ [])) ≡ size (chosen pre) + cond (b && not t) 1 0
      grown true true f k = omega (arith, ap size (push pre h ∙ ap (λ c. chosen pre ++ cond c (h.entry ∷ []) []) f), size_push (chosen pre) h.entry, ap {B = ℕ} (λ c. cond c 0 1) k)
      grown true false f k = omega (arith, ap size (push pre h ∙ ap (λ c. chosen pre ++ cond c (h.entry ∷ []) []) f), size_push (chosen pre) h.entry, ap {B = ℕ} (λ c. cond c 0 1) k)
      grown false t f k = omega (arith, ap size (push pre h ∙ ap (λ c. chosen pre ++ cond c (h.entry ∷ []) []) f ∙ append-nil (chosen pre)))

      go : (b t : Bool) → q h ≡ b → listed (owner h.entry) (owners (chosen pre)) ≡ t → size (chosen (pre ++ h ∷ [])) + length (filter (is_earliest all) (enumerate_from (n + 1) hs)) ≡ size (chosen all) → size (chosen pre) + length (filter (is_earliest all) (enumerate_from n (h ∷ hs))) ≡ size (chosen all)
      go b t f k ih = omega (arith, ih, grown b t f k, front (b && not t) (test b t f k))

  pub count_earliest : (hs : List Held) → chosen [] ≡ [] → length (filter (is_earliest hs) (enumerate_from 0 hs)) ≡ size (chosen hs)
  count_earliest hs none = omega (arith, count_from hs [] hs 0 refl refl, ap size none)

-- of all records, and of a cluster's
pub count_names : (hs : List Held) → length (filter (is_earliest records (λ _. true) records_push hs) (enumerate_from 0 hs)) ≡ size (records hs)
count_names hs = count_earliest records (λ _. true) records_push hs refl

pub count_members : (c : ℕ) (hs : List Held) → length (filter (is_earliest (members c) (λ h. eqb h.label c) (members_push c) hs) (enumerate_from 0 hs)) ≡ size (members c hs)
count_members c hs = count_earliest (members c) (λ h. eqb h.label c) (members_push c) hs refl

pub members_le : (c : ℕ) (hs : List Held) → length (members c hs) ≤ length hs
members_le c [] = omega arith
members_le c (h ∷ hs) = go (eqb h.label c) (members_le c hs)
  where
    go : (b : Bool) → length (members c hs) ≤ length hs → length (records (cond b (h ∷ filter (λ h. eqb h.label c) hs) (filter (λ h. eqb h.label c) hs))) ≤ length (h ∷ hs)
    go true l = omega (arith, l)
    go false l = omega (arith, l)

-- fewer than k stand at the front of a list just where it has fewer
pub few_front : {X : Type 0} (k : ℕ) (xs : List X) → ltb (length (take k xs)) k ≡ ltb (length xs) k
few_front k xs = ⊎_elim {C = ltb (length (take k xs)) k ≡ ltb (length xs) k}
    (λ l. lt-ltb _ _ (omega (arith, l, length-take k xs)) ∙ sym (lt-ltb _ _ l))
    (λ l. le-ltb _ _ (omega (arith, l, length-take k xs)) ∙ sym (le-ltb _ _ l))
    (cases_lt (length xs) k)

-- ---- boxes

-- widened record by record
abbrev pub widened_by : Meaning → Option Box → Held → Option Box
widened_by m b h = Some (tables.widened m b (values h.entry))

pub box_folded : (m : Meaning) (c : ℕ) (hs : List Held) → unwrap_or (fold (widened_by m) None (filter (λ h. eqb h.label c) hs)) no_box ≡ box_of m (members c hs)
box_folded m c hs = go (filter (λ h. eqb h.label c) hs)
  where
    rest : (b : Box) (hs : List Held) → unwrap_or (fold (widened_by m) (Some b) hs) no_box ≡ fold (widened m) b (records hs)
    rest b [] = refl
    rest b (h ∷ hs) = rest (widened m b h.entry) hs

    go : (hs : List Held) → unwrap_or (fold (widened_by m) None hs) no_box ≡ box_of m (records hs)
    go [] = refl
    go (h ∷ hs) = rest (point_box m (values h.entry)) hs
