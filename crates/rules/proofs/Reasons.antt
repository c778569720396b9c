-- The reasons of refusals, both ways.
use Rattle.std.proofs.Common.{◌≡◌, ℕ, zero, suc, ◌+◌, ◌<◌, ◌≤◌, Bool, true, false, not, eqb, ltb, leb, [], ◌∷◌, map, length, Some, None, Option, sym, refl, ap, ◌∙◌, subst, ⊎_elim, arith}
use Rattle.std.specs.List.{range_with_len}
use Rattle.std.specs.Option.{option_map}
use Rattle.std.proofs.lemmas.Bool.{eqb-true, eqb-false, eq-eqb, ne_eqb, leb-true, leb-false, le-leb, lt-leb, ltb-true, ltb-false, lt-ltb, le-ltb, cases_eq}
use Rattle.domain.specs.Meaning.{Meaning, admits_of}
use Rattle.domain.specs.Boxes.{value_at, known_count, attributes}
use Rattle.release.specs.declared.Settings.{Settings}
use Rattle.release.specs.declared.Record.{Record}
use Rattle.rules.specs.declared.refusals.OpenRefusal.{OpenRefusal}
use Rattle.rules.specs.declared.refusals.OpenRefusal.TheVariants.{Width, Limits}
use Rattle.rules.specs.declared.refusals.Refusal.{Refusal}
use Rattle.rules.specs.declared.refusals.Refusal.TheVariants.{Closed, Full, ShortList, Unfit}
use Rattle.rules.specs.States.{State}
use Rattle.rules.specs.Refusals.{if_so, first_of, narrow, within_limits, open_refusal, most_records, faults, feed_refusal, close_refusal}
use Rattle.rules.specs.Reasons.{OpenReason, open_width, open_limits, Fault, no_owner, no_value, FeedReason, feed_closed, feed_full, feed_short, feed_unfit, CloseReason, close_closed, close_short, ReasonsStand}
use Rattle.rules.proofs.Refused.{some_none}
use Rattle.rules.proofs.Wholeness.{some_same}

-- ---- opening

opening : (m : Meaning) (g : Settings) (e : OpenRefusal) → open_refusal m g ≡ Some e → OpenReason m g e
opening m g e h = go (narrow m) refl (within_limits g) refl h
  where
    go : (a : Bool) → narrow m ≡ a → (b : Bool) → within_limits g ≡ b → first_of (if_so (not a) Width ∷ if_so (not b) Limits ∷ []) ≡ Some e → OpenReason m g e
    go false x b y h = subst (OpenReason m g) (some_same h) (open_width x)
    go true x false y h = subst (OpenReason m g) (some_same h) (open_limits x y)
    go true x true y h = absurd (some_none (sym h))

opening_back : (m : Meaning) (g : Settings) (e : OpenRefusal) → OpenReason m g e → open_refusal m g ≡ Some e
opening_back m g _ (open_width x) = ap (λ a. first_of (if_so (not a) Width ∷ if_so (not (within_limits g)) Limits ∷ [])) x
opening_back m g _ (open_limits x y) = ap (λ a. first_of (if_so (not a) Width ∷ if_so (not (within_limits g)) Limits ∷ [])) x ∙ ap (λ b. first_of (if_so (not b) Limits ∷ [])) y

-- ---- the lowest column at fault

abbrev bad : Meaning → Record → ℕ → Option ℕ
bad m r i = if_so (not (admits_of m i (value_at r.values i))) (i + 2)

record BadValue (m : Meaning) (r : Record) (a n column : ℕ) : Type 0 where
  at : ℕ
  from : a ≤ at
  below : at < a + n
  not_admitted : admits_of m at (value_at r.values at) ≡ false
  others : (j : ℕ) → a ≤ j → j < at → admits_of m j (value_at r.values j) ≡ true
  its : at + 2 ≡ column

bad_value : (m : Meaning) (r : Record) (a n column : ℕ) → first_of (map (bad m r) (range_with_len a n)) ≡ Some column → BadValue m r a n column
bad_value m r a zero column h = absurd (some_none (sym h))
bad_value m r a (suc n) column h = go (admits_of m a (value_at r.values a)) refl h (bad_value m r (a + 1) n column)
  where
    go : (b : Bool) → admits_of m a (value_at r.values a) ≡ b → first_of (if_so (not b) (a + 2) ∷ map (bad m r) (range_with_len (a + 1) n)) ≡ Some column
        → (first_of (map (bad m r) (range_with_len (a + 1) n)) ≡ Some column → BadValue m r (a + 1) n column) → BadValue m r a (suc n) column
    go false e h ih = record { at = a; from = omega arith; below = omega arith; not_admitted = e; others = λ j l u. absurd (omega (arith, l, u)); its = some_same h }
    go true e h ih =
        let x = ih h in
        record {
          at = x.at;
          from = omega (arith, x.from);
          below = omega (arith, x.below);
          not_admitted = x.not_admitted;
          others = λ j l u. ⊎_elim (λ s. subst (λ i. admits_of m i (value_at r.values i) ≡ true) s e) (λ ne. x.others j (omega (arith, l, ne)) u) (cases_eq a j);
          its = x.its;
        }

pub value_back : (m : Meaning) (r : Record) (a n i : ℕ) → a ≤ i → i < a + n → admits_of m i (value_at r.values i) ≡ false → ((j : ℕ) → a ≤ j → j < i → admits_of m j (value_at r.values j) ≡ true) → first_of (map (bad m r) (range_with_len a n)) ≡ Some (i + 2)
value_back m r a zero i l u e f = absurd (omega (arith, l, u))
value_back m r a (suc n) i l u e f = ⊎_elim
    (λ s. ap (λ b. first_of (if_so (not b) (a + 2) ∷ map (bad m r) (range_with_len (a + 1) n))) (ap (λ i. admits_of m i (value_at r.values i)) s ∙ e) ∙ ap (λ i. Some (i + 2)) s)
    (λ ne. ap (λ b. first_of (if_so (not b) (a + 2) ∷ map (bad m r) (range_with_len (a + 1) n))) (f a (omega arith) (omega (arith, l, ne))) ∙ value_back m r (a + 1) n i (omega (arith, l, ne)) (omega (arith, u)) e (λ j k. f j (omega (arith, k))))
    (cases_eq a i)

fault : (m : Meaning) (r : Record) (column : ℕ) → first_of (faults m r) ≡ Some column → Fault m r column
fault m r column h = go (eqb r.owner 0) refl h
  where
    go : (b : Bool) → eqb r.owner 0 ≡ b → first_of (if_so b 1 ∷ map (bad m r) (attributes m)) ≡ Some column → Fault m r column
    go true e h = subst (Fault m r) (some_same h) (no_owner (eqb-true r.owner 0 e))
    go false e h =
        let x = bad_value m r 0 (known_count m) column h in
        subst (Fault m r) x.its (no_value (eqb-false r.owner 0 e) x.at (omega (arith, x.below)) x.not_admitted (λ j u. x.others j (omega arith) u))

pub fault_back : (m : Meaning) (r : Record) (column : ℕ) → Fault m r column → first_of (faults m r) ≡ Some column
fault_back m r _ (no_owner e) = ap (λ b. first_of (if_so b 1 ∷ map (bad m r) (attributes m))) (eq-eqb r.owner 0 e)
fault_back m r _ (no_value n i l e f) = ap (λ b. first_of (if_so b 1 ∷ map (bad m r) (attributes m))) (ne_eqb r.owner 0 n) ∙ value_back m r 0 (known_count m) i (omega arith) (omega (arith, l)) e (λ j _ u. f j u)

none_back : (m : Meaning) (r : Record) (a n : ℕ) → ((j : ℕ) → a ≤ j → j < a + n → admits_of m j (value_at r.values j) ≡ true) → first_of (map (bad m r) (range_with_len a n)) ≡ None
none_back m r a zero f = refl
none_back m r a (suc n) f = ap (λ b. first_of (if_so (not b) (a + 2) ∷ map (bad m r) (range_with_len (a + 1) n))) (f a (omega arith) (omega arith)) ∙ none_back m r (a + 1) n (λ j l u. f j (omega (arith, l)) (omega (arith, u)))

pub no_fault : (m : Meaning) (r : Record) → (r.owner ≡ 0 → ⊥) → ((j : ℕ) → j < known_count m → admits_of m j (value_at r.values j) ≡ true) → first_of (faults m r) ≡ None
no_fault m r n f = ap (λ b. first_of (if_so b 1 ∷ map (bad m r) (attributes m))) (ne_eqb r.owner 0 n) ∙ none_back m r 0 (known_count m) (λ j _ u. f j (omega (arith, u)))

-- ---- feeding and closing

abbrev fed : Bool → Bool → Bool → Option ℕ → Option Refusal
fed a b c o = first_of (if_so a Closed ∷ if_so b Full ∷ if_so c ShortList ∷ option_map Unfit o ∷ [])

feeding : (m : Meaning) (s : State) (r : Record) (room : ℕ) (e : Refusal) → feed_refusal m s r room ≡ Some e → FeedReason m s r room e
feeding m s r room e h = go s.closed refl (leb most_records s.accepted) refl (ltb room (length s.held + 1)) refl (first_of (faults m r)) refl h
  where
    go : (a : Bool) → s.closed ≡ a → (b : Bool) → leb most_records s.accepted ≡ b → (c : Bool) → ltb room (length s.held + 1) ≡ c → (o : Option ℕ) → first_of (faults m r) ≡ o → fed a b c o ≡ Some e → FeedReason m s r room e
    go true x b y c z o w h = subst (FeedReason m s r room) (some_same h) (feed_closed x)
    go false x true y c z o w h = subst (FeedReason m s r room) (some_same h) (feed_full x (leb-true most_records s.accepted y))
    go false x false y true z o w h = subst (FeedReason m s r room) (some_same h) (feed_short x (leb-false most_records s.accepted y) (ltb-true room (length s.held + 1) z))
    go false x false y false z (Some column) w h = subst (FeedReason m s r room) (some_same h) (feed_unfit x (leb-false most_records s.accepted y) (ltb-false room (length s.held + 1) z) column (fault m r column w))
    go false x false y false z None w h = absurd (some_none (sym h))

fed_same : {a a' b b' c c' : Bool} {o o' : Option ℕ} → a ≡ a' → b ≡ b' → c ≡ c' → o ≡ o' → fed a b c o ≡ fed a' b' c' o'
fed_same p q r s i = fed (p i) (q i) (r i) (s i)

feeding_back : (m : Meaning) (s : State) (r : Record) (room : ℕ) (e : Refusal) → FeedReason m s r room e → feed_refusal m s r room ≡ Some e
feeding_back m s r room _ (feed_closed x) = fed_same x refl refl refl
feeding_back m s r room _ (feed_full x y) = fed_same x (le-leb most_records s.accepted y) refl refl
feeding_back m s r room _ (feed_short x y z) = fed_same x (lt-leb most_records s.accepted y) (lt-ltb room (length s.held + 1) z) refl
feeding_back m s r room _ (feed_unfit x y z column f) = fed_same x (lt-leb most_records s.accepted y) (le-ltb room (length s.held + 1) z) (fault_back m r column f)

abbrev shut : Bool → Bool → Option Refusal
shut a c = first_of (if_so a Closed ∷ if_so c ShortList ∷ [])

closing : (s : State) (room : ℕ) (e : Refusal) → close_refusal s room ≡ Some e → CloseReason s room e
closing s room e h = go s.closed refl (ltb room (length s.held)) refl h
  where
    go : (a : Bool) → s.closed ≡ a → (c : Bool) → ltb room (length s.held) ≡ c → shut a c ≡ Some e → CloseReason s room e
    go true x c z h = subst (CloseReason s room) (some_same h) (close_closed x)
    go false x true z h = subst (CloseReason s room) (some_same h) (close_short x (ltb-true room (length s.held) z))
    go false x false z h = absurd (some_none (sym h))

closing_back : (s : State) (room : ℕ) (e : Refusal) → CloseReason s room e → close_refusal s room ≡ Some e
closing_back s room _ (close_closed x) = ap (λ a. shut a (ltb room (length s.held))) x
closing_back s room _ (close_short x z) = ap (λ a. shut a (ltb room (length s.held))) x ∙ ap (shut false) (lt-ltb room (length s.held) z)

pub reasons_stand : ReasonsStand
reasons_stand = record { opening = opening; opening_back = opening_back; feeding = feeding; feeding_back = feeding_back; closing = closing; closing_back = closing_back }
