-- What a call that is not refused tells, and what the first that passes is.
use Rattle.std.proofs.Common.{◌≡◌, ℕ, zero, suc, ◌+◌, ◌<◌, ◌≤◌, Bool, true, false, cond, not, ◌&&◌, eqb, ltb, leb, List, [], ◌∷◌, map, length, Some, None, filter, Option, refl, subst, arith}
use Rattle.std.specs.List.{range_with_len, AllByRecursion}
use Rattle.std.specs.Option.{option_map}
use Rattle.std.proofs.lemmas.Bool.{and_parts, not-false, leb-true, leb-false, ltb-false}
use Rattle.domain.specs.Ranges.{span, within}
use Rattle.domain.specs.Meaning.{Meaning, known, admits_of}
use Rattle.domain.specs.Boxes.{value_at, attributes, known_count}
use Rattle.domain.specs.BoxLaws.{Admitted}
use Rattle.domain.proofs.Places.{known_tells}
use Rattle.release.specs.declared.Settings.{Settings}
use Rattle.release.specs.declared.Record.{Record}
use Rattle.rules.specs.declared.refusals.Refusal.TheVariants.{Closed, Full, ShortList, Unfit}
use Rattle.rules.specs.declared.refusals.OpenRefusal.TheVariants.{Width, Limits}
use Rattle.rules.specs.Choosing.{In}
use Rattle.rules.specs.States.{State}
use Rattle.rules.specs.Refusals.{if_so, first_of, narrow, within_limits, open_refusal, most_records, closed_already, is_full, too_short, faults, unfit, feed_refusal, close_refusal}
use Rattle.rules.proofs.Totals.{Picked, kept_in}

-- ---- the first that passes

abbrev pub First : {X : Type 0} → (X → Bool) → List X → Option X → Type 0
First p xs (Some x) = In xs x × (p x ≡ true)
First p xs None = AllByRecursion (λ x. p x ≡ false) xs

none_kept : {X : Type 0} (p : X → Bool) (xs : List X) → length (filter p xs) ≤ 0 → AllByRecursion (λ x. p x ≡ false) xs
none_kept p [] l = tt
none_kept p (x ∷ xs) l = go (p x) refl l (none_kept p xs)
  where
    go : (b : Bool) → p x ≡ b → length (cond b (x ∷ filter p xs) (filter p xs)) ≤ 0 → (length (filter p xs) ≤ 0 → AllByRecursion (λ x. p x ≡ false) xs) → AllByRecursion (λ x. p x ≡ false) (x ∷ xs)
    go true e l ih = absurd (omega (arith, l))
    go false e l ih = (e, ih l)

pub first_from : {X : Type 0} (p : X → Bool) (xs : List X) (o : Option X) → Picked (filter p xs) o → First p xs o
first_from p xs (Some x) i = kept_in p xs x i
first_from p xs None l = none_kept p xs l

-- ---- the first reason

pub some_none : {X : Type 0} {x : X} → Some x ≡ None → ⊥
some_none {X} e = subst Fam e tt
  where
    Fam : Option X → Type 0
    Fam (Some x) = Unit {0}
    Fam None = ⊥

first_none : {X : Type 0} (o : Option X) (os : List (Option X)) → first_of (o ∷ os) ≡ None → (o ≡ None) × (first_of os ≡ None)
first_none None os e = (refl, e)
first_none (Some x) os e = absurd (some_none e)

if_none : {X : Type 0} (b : Bool) (x : X) → if_so b x ≡ None → b ≡ false
if_none true x e = absurd (some_none e)
if_none false x e = refl

mapped_none : {X Y : Type 0} (f : X → Y) (o : Option X) → option_map f o ≡ None → o ≡ None
mapped_none f (Some x) e = absurd (some_none e)
mapped_none f None e = refl

-- ---- opening

pub record Lawful (g : Settings) : Type 0 where
  pub crowd : 2 ≤ g.k
  pub delay : g.k ≤ g.delta
  pub clusters : 1 ≤ g.beta
  pub mean : 1 ≤ g.mu
  pub places : 1 ≤ g.rho
  pub most_crowd : g.k ≤ 32
  pub most_delay : g.delta ≤ 255
  pub most_clusters : g.beta ≤ 64
  pub most_mean : g.mu ≤ 32
  pub most_places : g.rho ≤ 64

pub lawful : (m : Meaning) (g : Settings) → open_refusal m g ≡ None → Lawful g
lawful m g e =
    let a = first_none (if_so (not (narrow m)) Width) (if_so (not (within_limits g)) Limits ∷ []) e in
    let b = first_none (if_so (not (within_limits g)) Limits) [] a.1 in
    let k = within (span 2 32) g.k in
    let d = within (span g.k 255) g.delta in
    let be = within (span 1 64) g.beta in
    let mu = within (span 1 32) g.mu in
    let rho = within (span 1 64) g.rho in
    let t : within_limits g ≡ true = not-false (within_limits g) (if_none (not (within_limits g)) Limits b.0) in
    let p = and_parts k (d && (be && (mu && rho))) t in
    let q = and_parts d (be && (mu && rho)) p.1 in
    let r = and_parts be (mu && rho) q.1 in
    let u = and_parts mu rho r.1 in
    record {
      crowd = leb-true 2 g.k (and_parts (leb 2 g.k) (leb g.k 32) p.0).0;
      delay = leb-true g.k g.delta (and_parts (leb g.k g.delta) (leb g.delta 255) q.0).0;
      clusters = leb-true 1 g.beta (and_parts (leb 1 g.beta) (leb g.beta 64) r.0).0;
      mean = leb-true 1 g.mu (and_parts (leb 1 g.mu) (leb g.mu 32) u.0).0;
      places = leb-true 1 g.rho (and_parts (leb 1 g.rho) (leb g.rho 64) u.1).0;
      most_crowd = leb-true g.k 32 (and_parts (leb 2 g.k) (leb g.k 32) p.0).1;
      most_delay = leb-true g.delta 255 (and_parts (leb g.k g.delta) (leb g.delta 255) q.0).1;
      most_clusters = leb-true g.beta 64 (and_parts (leb 1 g.beta) (leb g.beta 64) r.0).1;
      most_mean = leb-true g.mu 32 (and_parts (leb 1 g.mu) (leb g.mu 32) u.0).1;
      most_places = leb-true g.rho 64 (and_parts (leb 1 g.rho) (leb g.rho 64) u.1).1;
    }

-- ---- feeding and closing

pub record Feeds (m : Meaning) (s : State) (r : Record) (room : ℕ) : Type 0 where
  pub is_open : s.closed ≡ false
  pub some_left : s.accepted < most_records
  pub space : length s.held + 1 ≤ room
  pub owned : eqb r.owner 0 ≡ false
  pub values : Admitted m r.values

all_fit : (m : Meaning) (vs : List ℕ) (is : List ℕ) → first_of (map (λ i. if_so (not (admits_of m i (value_at vs i))) (i + 2)) is) ≡ None → AllByRecursion (λ i. admits_of m i (value_at vs i) ≡ true) is
all_fit m vs [] e = tt
all_fit m vs (i ∷ is) e =
    let a = first_none (if_so (not (admits_of m i (value_at vs i))) (i + 2)) (map (λ i. if_so (not (admits_of m i (value_at vs i))) (i + 2)) is) e in
    (not-false _ (if_none (not (admits_of m i (value_at vs i))) (i + 2) a.0), all_fit m vs is a.1)

all_counting : (P : ℕ → Type 0) (a n : ℕ) → AllByRecursion P (range_with_len a n) → (i : ℕ) → a ≤ i → i < a + n → P i
all_counting P a zero h i l u = absurd (omega (arith, l, u))
all_counting P a (suc n) h i l u = go (leb (a + 1) i) refl (all_counting P (a + 1) n h.1 i)
  where
    go : (b : Bool) → leb (a + 1) i ≡ b → (a + 1 ≤ i → i < a + 1 + n → P i) → P i
    go true e ih = ih (leb-true (a + 1) i e) (omega (arith, u))
    go false e ih = let f = leb-false (a + 1) i e in let same : a ≡ i = omega (arith, f, l) in subst P same h.0

pub feeds : (m : Meaning) (s : State) (r : Record) (room : ℕ) → feed_refusal m s r room ≡ None → Feeds m s r room
feeds m s r room e =
    let a = first_none (closed_already s) (is_full s ∷ too_short (length s.held + 1) room ∷ unfit m r ∷ []) e in
    let b = first_none (is_full s) (too_short (length s.held + 1) room ∷ unfit m r ∷ []) a.1 in
    let c = first_none (too_short (length s.held + 1) room) (unfit m r ∷ []) b.1 in
    let d = first_none (unfit m r) [] c.1 in
    let f = first_none (if_so (eqb r.owner 0) 1) (map (λ i. if_so (not (admits_of m i (value_at r.values i))) (i + 2)) (attributes m)) (mapped_none Unfit (first_of (faults m r)) d.0) in
    let vs = all_fit m r.values (attributes m) f.1 in
    record {
      is_open = if_none s.closed Closed a.0;
      some_left = leb-false most_records s.accepted (if_none (leb most_records s.accepted) Full b.0);
      space = ltb-false room (length s.held + 1) (if_none (ltb room (length s.held + 1)) ShortList c.0);
      owned = if_none (eqb r.owner 0) 1 f.0;
      values = λ i k. (and_parts (known m i) ((m.attribute i).admitted (value_at r.values i)) (all_counting (λ i. admits_of m i (value_at r.values i) ≡ true) 0 (known_count m) vs i (omega arith) (omega (arith, known_tells m i k)))).1;
    }

pub record Closes (s : State) (room : ℕ) : Type 0 where
  pub is_open : s.closed ≡ false
  pub space : length s.held ≤ room

pub closes : (s : State) (room : ℕ) → close_refusal s room ≡ None → Closes s room
closes s room e =
    let a = first_none (closed_already s) (too_short (length s.held) room ∷ []) e in
    let b = first_none (too_short (length s.held) room) [] a.1 in
    record { is_open = if_none s.closed Closed a.0; space = ltb-false room (length s.held) (if_none (ltb room (length s.held)) ShortList b.0) }
