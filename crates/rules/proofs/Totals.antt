-- Totals over lists, and what stands in them.
use Rattle.std.proofs.Common.{◌≡◌, ℕ, zero, suc, ◌+◌, ◌≤◌, Bool, true, false, cond, not, eqb, ◌⊎◌, List, [], ◌∷◌, ◌++◌, map, length, take, Some, None, filter, Option, sym, refl, ap, ◌∙◌, subst, inl, inr, ⊎_elim, arith}
use Rattle.std.specs.List.{AllByRecursion}
use Rattle.std.proofs.lemmas.Bool.{eqb-true, eq-eqb, ne_eqb, cases_Bool, both_ways}
use Rattle.rules.specs.Choosing.{In, total, head, chosen, Rank, lower, in_order, lowest_ranked}
use Rattle.rules.specs.Promise.{one}
use Rattle.std.proofs.ByRecursion.{All-append, all_kept_by}

pub true_false : {X : Type 0} {b : Bool} → b ≡ true → b ≡ false → X
true_false {b = b} t f = absurd (both_ways b f t)

-- a number counts 1 or 0
pub mark : {a b : Bool} → a ≡ b → ◌≡◌ {A = ℕ} (cond a 1 0) (cond b 1 0)
mark e = ap {B = ℕ} (λ t. cond t 1 0) e

pub mark_le : (b : Bool) → cond b 1 0 ≤ 1
mark_le true = omega arith
mark_le false = omega arith

pub one_self : (o : ℕ) → one o o ≡ 1
one_self o = mark (eq-eqb o o refl)

pub one_le : (o w : ℕ) → one o w ≤ 1
one_le o w = mark_le (eqb w o)

pub eqb_sym : (a b : ℕ) → eqb a b ≡ eqb b a
eqb_sym a b = ⊎_elim (λ t. t ∙ sym (eq-eqb b a (sym (eqb-true a b t)))) (λ f. f ∙ sym (ne_eqb b a (λ e. both_ways (eqb a b) f (eq-eqb a b (sym e))))) (cases_Bool (eqb a b))

module _ {X : Type 0} where
  pub total_append : (f : X → ℕ) (xs ys : List X) → total f (xs ++ ys) ≡ total f xs + total f ys
  total_append f [] ys = omega arith
  total_append f (x ∷ xs) ys = omega (arith, total_append f xs ys)

  pub total_push : (f : X → ℕ) (xs : List X) (x : X) → total f (xs ++ x ∷ []) ≡ total f xs + f x
  total_push f xs x = omega (arith, total_append f xs (x ∷ []))

  pub total_same : (f k : X → ℕ) → ((x : X) → f x ≡ k x) → (xs : List X) → total f xs ≡ total k xs
  total_same f k e [] = refl
  total_same f k e (x ∷ xs) = omega (arith, e x, total_same f k e xs)

  pub total_le : (f k : X → ℕ) → ((x : X) → f x ≤ k x) → (xs : List X) → total f xs ≤ total k xs
  total_le f k e [] = omega arith
  total_le f k e (x ∷ xs) = omega (arith, e x, total_le f k e xs)

  pub total_take : (f : X → ℕ) (n : ℕ) (xs : List X) → total f (take n xs) ≤ total f xs
  total_take f zero xs = omega arith
  total_take f (suc n) [] = omega arith
  total_take f (suc n) (x ∷ xs) = omega (arith, total_take f n xs)

  pub total_kept : (f : X → ℕ) (q : X → Bool) (xs : List X) → total f (filter q xs) ≡ total (λ x. cond (q x) (f x) 0) xs
  total_kept f q [] = refl
  total_kept f q (x ∷ xs) = go (q x) (total_kept f q xs)
    where
      go : (b : Bool) → total f (filter q xs) ≡ total (λ x. cond (q x) (f x) 0) xs → total f (cond b (x ∷ filter q xs) (filter q xs)) ≡ cond b (f x) 0 + total (λ x. cond (q x) (f x) 0) xs
      go true ih = omega (arith, ih)
      go false ih = omega (arith, ih)

  pub kept_both : (f : X → ℕ) (q : X → Bool) (xs : List X) → total f (filter q xs) + total f (filter (λ x. not (q x)) xs) ≡ total f xs
  kept_both f q [] = refl
  kept_both f q (x ∷ xs) = go (q x) (kept_both f q xs)
    where
      go : (b : Bool) → total f (filter q xs) + total f (filter (λ x. not (q x)) xs) ≡ total f xs → total f (cond b (x ∷ filter q xs) (filter q xs)) + total f (cond (not b) (x ∷ filter (λ x. not (q x)) xs) (filter (λ x. not (q x)) xs)) ≡ f x + total f xs
      go true ih = omega (arith, ih)
      go false ih = omega (arith, ih)

  pub kept_le : (f : X → ℕ) (q : X → Bool) (xs : List X) → total f (filter q xs) ≤ total f xs
  kept_le f q xs = omega (arith, kept_both f q xs)

  pub length_total : (xs : List X) → total (λ _. 1) xs ≡ length xs
  length_total [] = refl
  length_total (x ∷ xs) = omega (arith, length_total xs)

  -- of marks that add up to 0 or 1
  pub marked_none : (q : X → Bool) (w : ℕ) (xs : List X) → total (λ x. cond (q x) 1 0) xs ≡ 0 → total (λ x. cond (q x) w 0) xs ≡ 0
  marked_none q w [] e = refl
  marked_none q w (x ∷ xs) e = go (q x) e (marked_none q w xs)
    where
      go : (b : Bool) → cond b 1 0 + total (λ x. cond (q x) 1 0) xs ≡ 0 → (total (λ x. cond (q x) 1 0) xs ≡ 0 → total (λ x. cond (q x) w 0) xs ≡ 0) → cond b w 0 + total (λ x. cond (q x) w 0) xs ≡ 0
      go true e ih = absurd (omega (arith, e))
      go false e ih = omega (arith, ih (omega (arith, e)))

  pub marked_once : (q : X → Bool) (w : ℕ) (xs : List X) → total (λ x. cond (q x) 1 0) xs ≡ 1 → total (λ x. cond (q x) w 0) xs ≡ w
  marked_once q w [] e = absurd (omega arith)
  marked_once q w (x ∷ xs) e = go (q x) e (marked_once q w xs)
    where
      go : (b : Bool) → cond b 1 0 + total (λ x. cond (q x) 1 0) xs ≡ 1 → (total (λ x. cond (q x) 1 0) xs ≡ 1 → total (λ x. cond (q x) w 0) xs ≡ w) → cond b w 0 + total (λ x. cond (q x) w 0) xs ≡ w
      go true e ih = omega (arith, marked_none q w xs (omega (arith, e)))
      go false e ih = omega (arith, ih (omega (arith, e)))

  -- ---- standing in a list

  pub in_total : (f : X → ℕ) (xs : List X) (x : X) → In xs x → f x ≤ total f xs
  in_total f [] x i = absurd i
  in_total f (y ∷ xs) x i = ⊎_elim (λ e. omega (arith, ap f e)) (λ j. omega (arith, in_total f xs x j)) i

  pub all_in : (P : X → Type 0) (xs : List X) → ((x : X) → In xs x → P x) → AllByRecursion P xs
  all_in P [] h = tt
  all_in P (x ∷ xs) h = (h x (inl refl), all_in P xs (λ y i. h y (inr i)))

  pub in_all : (P : X → Type 0) (xs : List X) (x : X) → AllByRecursion P xs → In xs x → P x
  in_all P [] x a i = absurd i
  in_all P (y ∷ xs) x a i = ⊎_elim (λ e. subst P e a.0) (λ j. in_all P xs x a.1 j) i

  pub in_append : (xs ys : List X) (x : X) → In (xs ++ ys) x → In xs x ⊎ In ys x
  in_append [] ys x i = inr i
  in_append (y ∷ xs) ys x i = ⊎_elim (λ e. inl (inl e)) (λ j. ⊎_elim (λ k. inl (inr k)) inr (in_append xs ys x j)) i

  pub append_in : (xs ys : List X) (x : X) → In xs x ⊎ In ys x → In (xs ++ ys) x
  append_in [] ys x i = ⊎_elim absurd (λ j. j) i
  append_in (y ∷ xs) ys x i = ⊎_elim (⊎_elim inl (λ j. inr (append_in xs ys x (inl j)))) (λ j. inr (append_in xs ys x (inr j))) i

  -- what is kept stood there, and passes
  pub kept_in : (q : X → Bool) (xs : List X) (x : X) → In (filter q xs) x → In xs x × (q x ≡ true)
  kept_in q [] x i = absurd i
  kept_in q (y ∷ xs) x i = go (q y) refl i (kept_in q xs x)
    where
      go : (b : Bool) → q y ≡ b → In (cond b (y ∷ filter q xs) (filter q xs)) x → (In (filter q xs) x → In xs x × (q x ≡ true)) → In (y ∷ xs) x × (q x ≡ true)
      go true e i ih = ⊎_elim (λ s. (inl s, ap q (sym s) ∙ e)) (λ j. (inr (ih j).0, (ih j).1)) i
      go false e i ih = (inr (ih i).0, (ih i).1)

  -- what stands there and passes is kept
  pub in_kept : (q : X → Bool) (xs : List X) (x : X) → In xs x → q x ≡ true → In (filter q xs) x
  in_kept q [] x i p = absurd i
  in_kept q (y ∷ xs) x i p = go (q y) refl (λ j. in_kept q xs x j p)
    where
      go : (b : Bool) → q y ≡ b → (In xs x → In (filter q xs) x) → In (cond b (y ∷ filter q xs) (filter q xs)) x
      go true e ih = ⊎_elim inl (λ j. inr (ih j)) i
      go false e ih = ⊎_elim (λ s. true_false (ap q s ∙ p) e) ih i

  -- ---- the first, and the one chosen

  abbrev pub Picked : List X → Option X → Type 0
  Picked xs (Some x) = In xs x
  Picked xs None = length xs ≤ 0

  pub head_is : (xs : List X) → Picked xs (head xs)
  head_is [] = omega arith
  head_is (x ∷ xs) = inl refl

  pub chosen_is : (xs : List X) → Picked xs (chosen xs)
  chosen_is xs = head_is xs

  -- ---- in order of rank

  pub total_in_order : (f : X → ℕ) (rank : X → Rank) (xs : List X) → total f (in_order rank xs) ≡ total f xs
  total_in_order f rank [] = refl
  total_in_order f rank (x ∷ xs) =
      let q : X → Bool = λ y. lower (rank y) (rank x) in
      let ys = in_order rank xs in
      omega (arith, total_append f (filter q ys) (x ∷ filter (λ y. not (q y)) ys), kept_both f q ys, total_in_order f rank xs)

  pub total_lowest_ranked : (f : X → ℕ) (n : ℕ) (rank : X → Rank) (xs : List X) → total f (lowest_ranked rank n xs) ≤ total f xs
  total_lowest_ranked f n rank xs = omega (arith, total_take f n (in_order rank xs), total_in_order f rank xs)

  pub length_in_order : (rank : X → Rank) (xs : List X) → length (in_order rank xs) ≡ length xs
  length_in_order rank xs = sym (length_total (in_order rank xs)) ∙ total_in_order (λ _. 1) rank xs ∙ length_total xs

  pub all_in_order : (P : X → Type 0) (rank : X → Rank) (xs : List X) → AllByRecursion P xs → AllByRecursion P (in_order rank xs)
  all_in_order P rank [] a = tt
  all_in_order P rank (x ∷ xs) a =
      let ih = all_in_order P rank xs a.1 in
      let q : X → Bool = λ y. lower (rank y) (rank x) in
      All-append P (filter q (in_order rank xs)) (x ∷ filter (λ y. not (q y)) (in_order rank xs))
      (all_kept_by q P (in_order rank xs) ih) (a.0, all_kept_by (λ y. not (q y)) P (in_order rank xs) ih)

pub total_map : {X Y : Type 0} (f : Y → ℕ) (k : X → Y) (xs : List X) → total f (map k xs) ≡ total (λ x. f (k x)) xs
total_map f k [] = refl
total_map f k (x ∷ xs) = omega (arith, total_map f k xs)

pub in_map : {X Y : Type 0} (k : X → Y) (xs : List X) (x : X) → In xs x → In (map k xs) (k x)
in_map k [] x i = absurd i
in_map k (y ∷ xs) x i = ⊎_elim (λ e. inl (ap k e)) (λ j. inr (in_map k xs x j)) i

pub map_in : {X Y : Type 0} (k : X → Y) (xs : List X) (y : Y) → In (map k xs) y → (x : X) × In xs x × (k x ≡ y)
map_in k [] y i = absurd i
map_in k (x ∷ xs) y i = ⊎_elim (λ e. (x, inl refl, e)) (λ j. let r = map_in k xs y j in (r.0, inr r.1, r.2)) i
