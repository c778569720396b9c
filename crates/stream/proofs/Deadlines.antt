-- The held record that is due is the first with its deadline, and none stands behind a later one.
use Rattle.std.proofs.Common.{◌≡◌, ℕ, suc, ◌+◌, ◌<◌, ◌≤◌, Bool, true, false, cond, not, eqb, leb, ltb, List, [], ◌∷◌, map, length, position, IfSome, Some, None, Option, filter, sym, refl, ap, ◌∙◌, one-add, ⊎_elim, arith}
use Rattle.std.specs.List.{position_or_len, prefix_len, take_while}
use Rattle.std.specs.Option.{option_map}
use Rattle.std.proofs.lemmas.List.{length-take, length-map}
use Rattle.std.proofs.lemmas.List.Sums.{take_while-cons}
use Rattle.std.proofs.lemmas.Option.{IfSome_then}
use Rattle.std.proofs.ByRecursion.{All-weaker}
use Rattle.std.proofs.lemmas.Bool.{cases_lt, cases_eq, eq-eqb, ne_eqb, le-leb, lt-leb, lt-ltb, le-ltb, ltb-true, ltb-false}
use Rattle.keeper.proofs.Filters.{kept_by_none, kept_by_yes, kept_by_no}
use Rattle.release.specs.declared.Settings.{Settings}
use Rattle.rules.specs.declared.Held.{Held}
use Rattle.rules.specs.Choosing.{head}
use Rattle.rules.specs.States.{State, deadline, is_due}
use Rattle.rules.specs.Facts.{ByPosition}
use Rattle.stream.specs.Places.{held_at}

position-cons : {X : Type 0} (p : X → Bool) (x : X) (xs : List X) → position p (x ∷ xs) ≡ cond (p x) (Some 0) (option_map suc (position p xs))
position-cons {X} p x xs = go (p x)
  where
    k : ℕ
    k = position_or_len p xs

    n : ℕ
    n = length xs

    further : (b : Bool) → ltb k n ≡ b → cond (ltb (1 + k) (length (x ∷ xs))) (Some (1 + k)) None ≡ option_map suc (cond b (Some k) None)
    further true e = ap (λ b. cond b (Some (1 + k)) None) (lt-ltb (1 + k) (length (x ∷ xs)) (omega (arith, ltb-true k n e))) ∙ ap Some (one-add k)
    further false e = ap (λ b. cond b (Some (1 + k)) None) (le-ltb (1 + k) (length (x ∷ xs)) (omega (arith, ltb-false k n e)))

    go : (b : Bool) → cond (ltb (cond (not b) (1 + k) 0) (length (x ∷ xs))) (Some (cond (not b) (1 + k) 0)) None ≡ cond b (Some 0) (option_map suc (position p xs))
    go true = ap (λ b. cond b (Some 0) None) (lt-ltb 0 (length (x ∷ xs)) (omega arith))
    go false = further (ltb k n) refl

position-within : {X : Type 0} (p : X → Bool) (xs : List X) → IfSome (position p xs) (λ i. i < length xs)
position-within {X} p xs = go (ltb (position_or_len p xs) (length xs)) refl
  where
    go : (b : Bool) → ltb (position_or_len p xs) (length xs) ≡ b → IfSome (cond b (Some (position_or_len p xs)) None) (λ i. i < length xs)
    go true e = ltb-true (position_or_len p xs) (length xs) e
    go false e = tt

module _ (g : Settings) (n : ℕ) where
  -- the first deadline that is n, of those ahead of the first later one
  abbrev pub due_in : List Held → Option ℕ
  due_in hs = position (λ d. eqb d n) (take_while (λ d. leb d n) (map (λ h. deadline g h.entry) hs))

  -- by the first record's deadline
  due-cons : (h : Held) (hs : List Held) (early now : Bool) → leb (deadline g h.entry) n ≡ early → eqb (deadline g h.entry) n ≡ now → due_in (h ∷ hs) ≡ cond early (cond now (Some 0) (option_map suc (due_in hs))) None
  due-cons h hs early now e f =
      let d = deadline g h.entry in
      let more = take_while (λ d. leb d n) (map (λ h. deadline g h.entry) hs) in
      ap (position (λ d. eqb d n)) (take_while-cons (λ d. leb d n) d (map (λ h. deadline g h.entry) hs) ∙ ap (λ b. cond b (d ∷ more) []) e) ∙ go early more
    where
      go : (b : Bool) (ds : List ℕ) → position (λ d. eqb d n) (cond b (deadline g h.entry ∷ ds) []) ≡ cond b (cond now (Some 0) (option_map suc (position (λ d. eqb d n) ds))) None
      go true ds = position-cons (λ d. eqb d n) (deadline g h.entry) ds ∙ ap (λ b. cond b (Some 0) (option_map suc (position (λ d. eqb d n) ds))) f
      go false ds = refl

  further : (h : Held) (hs : List Held) (o : Option ℕ) → held_at (h ∷ hs) (option_map suc o) ≡ held_at hs o
  further h hs (Some i) = refl
  further h hs None = refl

  pub due_found : (s : State) → s.accepted ≡ n → (hs : List Held) → ByPosition hs → held_at hs (due_in hs) ≡ head (filter (is_due g s) hs)
  due_found s a [] b = refl
  due_found s a (h ∷ hs) b = ⊎_elim (early (due_found s a hs b.1)) (λ l. ⊎_elim (due l) (late l) (cases_eq d n)) (cases_lt d n)
    where
      d : ℕ
      d = deadline g h.entry

      early : held_at hs (due_in hs) ≡ head (filter (is_due g s) hs) → d < n → held_at (h ∷ hs) (due_in (h ∷ hs)) ≡ head (filter (is_due g s) (h ∷ hs))
      early ih l =
          ap (held_at (h ∷ hs)) (due-cons h hs true false (le-leb d n (omega arith)) (ne_eqb d n (λ e. omega (arith, l, e)))) ∙ further h hs (due_in hs) ∙ ih
          ∙ sym (ap head (kept_by_no (is_due g s) h hs (ne_eqb d s.accepted (λ e. omega (arith, l, a, e)))))

      due : n ≤ d → d ≡ n → held_at (h ∷ hs) (due_in (h ∷ hs)) ≡ head (filter (is_due g s) (h ∷ hs))
      due l e =
          ap (held_at (h ∷ hs)) (due-cons h hs true true (le-leb d n (omega arith)) (eq-eqb d n e)) ∙ sym (ap head (kept_by_yes (is_due g s) h hs (eq-eqb d s.accepted (e ∙ sym a))))

      late : n ≤ d → (d ≡ n → ⊥) → held_at (h ∷ hs) (due_in (h ∷ hs)) ≡ head (filter (is_due g s) (h ∷ hs))
      late l ne =
          let above : n < d = omega (arith, l, ne) in
          ap (held_at (h ∷ hs)) (due-cons h hs false false (lt-leb d n above) (ne_eqb d n ne))
          ∙ sym (ap head (kept_by_none (is_due g s) (h ∷ hs) (ne_eqb d s.accepted (λ e. omega (arith, above, a, e)), All-weaker _ _ (λ x u. ne_eqb (deadline g x.entry) s.accepted (λ e. omega (arith, u, above, a, e))) hs b.0)))

  pub due_within : (hs : List Held) → IfSome (due_in hs) (λ i. i < length hs)
  due_within hs =
      let ds = map (λ h. deadline g h.entry) hs in
      IfSome_then (due_in hs) (position-within (λ d. eqb d n) (take_while (λ d. leb d n) ds)) (λ i l. omega (arith, l, length-take (prefix_len (λ d. leb d n) ds) ds, length-map hs (λ (h : Held). deadline g h.entry)))
