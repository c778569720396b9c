-- Lists of numbers, as of owners and labels: how often each comes, the different ones, the least key.
use Rattle.std.proofs.Common.{◌≡◌, ℕ, suc, ◌+◌, ◌≤◌, Bool, true, false, cond, not, ◌||◌, eqb, List, [], ◌∷◌, length, filter, refl, ap, ◌∙◌, inl, inr, ⊎_elim, arith}
use Rattle.std.proofs.lemmas.Bool.{eqb-true, eq-eqb, cases_lt}
use Rattle.rules.specs.Choosing.{In, total, lowest, minimal, different, listed}
use Rattle.rules.specs.Promise.{one}
use Rattle.rules.proofs.Totals.{true_false, mark, mark_le, one_self, one_le, eqb_sym, in_total, in_kept}

-- how often o comes
abbrev pub times : ℕ → List ℕ → ℕ
times o ws = total (one o) ws

-- a number that comes at most once: listed or not is how often
pub once_listed : (o : ℕ) (ws : List ℕ) → times o ws ≤ 1 → cond (listed o ws) 1 0 ≡ times o ws
once_listed o [] h = refl
once_listed o (w ∷ ws) h = go (eqb w o) h (once_listed o ws)
  where
    go : (b : Bool) → cond b 1 0 + times o ws ≤ 1 → (times o ws ≤ 1 → cond (listed o ws) 1 0 ≡ times o ws) → cond (b || listed o ws) 1 0 ≡ cond b 1 0 + times o ws
    go true h ih = omega (arith, h)
    go false h ih = omega (arith, ih (omega (arith, h)))

pub listed_le : (o : ℕ) (ws : List ℕ) → cond (listed o ws) 1 0 ≤ times o ws
listed_le o [] = omega arith
listed_le o (w ∷ ws) = go (eqb w o) (listed_le o ws)
  where
    go : (b : Bool) → cond (listed o ws) 1 0 ≤ times o ws → cond (b || listed o ws) 1 0 ≤ cond b 1 0 + times o ws
    go true ih = omega arith
    go false ih = omega (arith, ih)

pub times_listed : (o : ℕ) (ws : List ℕ) → 1 ≤ times o ws → listed o ws ≡ true
times_listed o [] l = absurd (omega (arith, l))
times_listed o (w ∷ ws) l = go (eqb w o) l (times_listed o ws)
  where
    go : (b : Bool) → 1 ≤ cond b 1 0 + times o ws → (1 ≤ times o ws → listed o ws ≡ true) → (b || listed o ws) ≡ true
    go true l ih = refl
    go false l ih = ih (omega (arith, l))

pub in_times : (o : ℕ) (ws : List ℕ) → In ws o → 1 ≤ times o ws
in_times o ws i = omega (arith, in_total (one o) ws o i, one_self o)

pub in_listed : (o : ℕ) (ws : List ℕ) → In ws o → listed o ws ≡ true
in_listed o ws i = times_listed o ws (in_times o ws i)

pub listed_in : (o : ℕ) (ws : List ℕ) → listed o ws ≡ true → In ws o
listed_in o [] e = true_false e refl
listed_in o (w ∷ ws) e = go (eqb w o) refl e (listed_in o ws)
  where
    go : (b : Bool) → eqb w o ≡ b → (b || listed o ws) ≡ true → (listed o ws ≡ true → In ws o) → In (w ∷ ws) o
    go true t e ih = inl (eqb-true w o t)
    go false t e ih = inr (ih e)

-- a test keeps or drops all of a number
pub times_kept : (o : ℕ) (q : ℕ → Bool) (ws : List ℕ) → times o (filter q ws) ≡ cond (q o) (times o ws) 0
times_kept o q [] = none (q o)
  where
    none : (b : Bool) → times o [] ≡ cond b (times o []) 0
    none true = refl
    none false = refl
times_kept o q (w ∷ ws) = go (eqb w o) (q w) (q o) (λ e. ap q (eqb-true w o e)) refl (times_kept o q ws)
  where
    go : (b c d : Bool) → (b ≡ true → c ≡ d) → eqb w o ≡ b → times o (filter q ws) ≡ cond d (times o ws) 0 → times o (cond c (w ∷ filter q ws) (filter q ws)) ≡ cond d (cond b 1 0 + times o ws) 0
    go true true true s e ih = omega (arith, ih, mark e)
    go true false false s e ih = ih
    go true true false s e ih = true_false refl (s refl)
    go true false true s e ih = true_false (s refl) refl
    go false true true s e ih = omega (arith, ih, mark e)
    go false true false s e ih = omega (arith, ih, mark e)
    go false false true s e ih = omega (arith, ih)
    go false false false s e ih = ih

-- each of the different numbers comes once
pub times_different : (o : ℕ) (xs : List ℕ) → times o (different xs) ≡ cond (listed o xs) 1 0
times_different o [] = refl
times_different o (x ∷ xs) = go (eqb x o) refl (times_kept o (λ y. not (eqb y x)) (different xs)) (times_different o xs)
  where
    rest : List ℕ
    rest = filter (λ y. not (eqb y x)) (different xs)

    go : (b : Bool) → eqb x o ≡ b → times o rest ≡ cond (not (eqb o x)) (times o (different xs)) 0 → times o (different xs) ≡ cond (listed o xs) 1 0 → cond b 1 0 + times o rest ≡ cond (b || listed o xs) 1 0
    go true e k ih = omega (arith, k, ap {B = ℕ} (λ t. cond (not t) (times o (different xs)) 0) (eqb_sym o x ∙ e))
    go false e k ih = omega (arith, k, ap {B = ℕ} (λ t. cond (not t) (times o (different xs)) 0) (eqb_sym o x ∙ e), ih)

pub different_once : (o : ℕ) (xs : List ℕ) → times o (different xs) ≤ 1
different_once o xs = omega (arith, times_different o xs, mark_le (listed o xs))

-- ---- a list that has no number more often is no longer

drop_one : ℕ → List ℕ → List ℕ
drop_one o [] = []
drop_one o (z ∷ zs) = cond (eqb z o) zs (z ∷ drop_one o zs)

drop_length : (o : ℕ) (zs : List ℕ) → 1 ≤ times o zs → length zs ≡ length (drop_one o zs) + 1
unfolding drop_one
drop_length o [] l = absurd (omega (arith, l))
drop_length o (z ∷ zs) l = go (eqb z o) l (drop_length o zs)
  where
    go : (b : Bool) → 1 ≤ cond b 1 0 + times o zs → (1 ≤ times o zs → length zs ≡ length (drop_one o zs) + 1) → suc (length zs) ≡ length (cond b zs (z ∷ drop_one o zs)) + 1
    go true l ih = omega arith
    go false l ih = omega (arith, ih (omega (arith, l)))

drop_times : (o w : ℕ) (zs : List ℕ) → times w zs ≤ times w (drop_one o zs) + one w o
unfolding drop_one
drop_times o w [] = omega arith
drop_times o w (z ∷ zs) = go (eqb z o) refl (drop_times o w zs)
  where
    go : (b : Bool) → eqb z o ≡ b → times w zs ≤ times w (drop_one o zs) + one w o → one w z + times w zs ≤ times w (cond b zs (z ∷ drop_one o zs)) + one w o
    go true e ih = omega (arith, ap (one w) (eqb-true z o e))
    go false e ih = omega (arith, ih)

pub fewer : (ys zs : List ℕ) → ((o : ℕ) → times o ys ≤ times o zs) → length ys ≤ length zs
fewer [] zs h = omega arith
fewer (y ∷ ys) zs h =
    let some : 1 ≤ times y zs = omega (arith, h y, one_self y) in
    omega (arith, drop_length y zs some, fewer ys (drop_one y zs) (λ o. omega (arith, h o, drop_times y o zs, one_le o y)))

-- ---- the least key

module _ {X : Type 0} where
  pub lowest_le : (key : X → ℕ) (xs : List X) (x : X) → In xs x → lowest key xs ≤ key x
  lowest_le key [] x i = absurd i
  lowest_le key (y ∷ []) x i = ⊎_elim (λ e. omega (arith, ap key e)) absurd i
  lowest_le key (y ∷ z ∷ zs) x i = ⊎_elim (λ e. omega (arith, ap key e)) (λ j. omega (arith, lowest_le key (z ∷ zs) x j)) i

  pub lowest_some : (key : X → ℕ) (x : X) (xs : List X) → (y : X) × In (x ∷ xs) y × (key y ≡ lowest key (x ∷ xs))
  lowest_some key x [] = (x, inl refl, refl)
  lowest_some key x (z ∷ zs) =
      let r = lowest_some key z zs in
      ⊎_elim {C = (y : X) × In (x ∷ z ∷ zs) y × (key y ≡ lowest key (x ∷ z ∷ zs))}
      (λ l. (x, inl refl, omega (arith, l))) (λ l. (r.0, inr r.1, omega (arith, l, r.2))) (cases_lt (key x) (lowest key (z ∷ zs)))

  -- some have the least key
  pub minimal_some : (key : X → ℕ) (xs : List X) → length (minimal key xs) ≤ 0 → length xs ≤ 0
  minimal_some key [] l = omega arith
  minimal_some key (x ∷ xs) l =
      let r = lowest_some key x xs in
      let i : In (minimal key (x ∷ xs)) r.0 = in_kept (λ y. eqb (key y) (lowest key (x ∷ xs))) (x ∷ xs) r.0 r.1 (eq-eqb _ _ r.2) in
      absurd (none (minimal key (x ∷ xs)) r.0 l i)
    where
      none : (ys : List X) (y : X) → length ys ≤ 0 → In ys y → ⊥
      none [] y l i = i
      none (z ∷ ys) y l i = omega (arith, l)
