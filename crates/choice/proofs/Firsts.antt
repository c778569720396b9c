-- The first of the least: one element more at the end of the list, and the same choice through a function.
use Rattle.std.proofs.Common.{◌≡◌, ℕ, ◌<◌, ◌≤◌, min, Bool, true, false, cond, eqb, ◌⊎◌, List, [], ◌∷◌, ◌++◌, map, length, Some, None, filter, sym, refl, ap, ◌∙◌, inl, inr, ⊎_elim, arith}
use Rattle.std.specs.Option.{option_map}
use Rattle.std.specs.List.{AllByRecursion}
use Rattle.std.proofs.lemmas.List.{append-nil}
use Rattle.std.proofs.lemmas.List.Elements.{filter-append}
use Rattle.std.proofs.ByRecursion.{All-weaker}
use Rattle.std.proofs.lemmas.Bool.{eq-eqb, ne_eqb, eqb-true, cases_lt}
use Rattle.rules.specs.Choosing.{In, head, lowest, minimal, least}
use Rattle.rules.proofs.Totals.{all_in, kept_in}
use Rattle.rules.proofs.Numbers.{lowest_le, minimal_some}
use Rattle.pool.proofs.Rows.{kept_map}

module _ {X : Type 0} where
  pub kept_same : (p q : X → Bool) (xs : List X) → AllByRecursion (λ x. p x ≡ q x) xs → filter p xs ≡ filter q xs
  kept_same p q [] a = refl
  kept_same p q (x ∷ xs) a = ap (λ b. cond b (x ∷ filter p xs) (filter p xs)) a.0 ∙ ap (λ ys. cond (q x) (x ∷ ys) ys) (kept_same p q xs a.1)

  kept_none : (p : X → Bool) (xs : List X) → AllByRecursion (λ x. p x ≡ false) xs → filter p xs ≡ []
  kept_none p [] a = refl
  kept_none p (x ∷ xs) a = ap (λ b. cond b (x ∷ filter p xs) (filter p xs)) a.0 ∙ kept_none p xs a.1

  -- one more at the end
  pub kept_push : (p : X → Bool) (xs : List X) (y : X) (b : Bool) → p y ≡ b → filter p (xs ++ y ∷ []) ≡ filter p xs ++ cond b (y ∷ []) []
  kept_push p xs y b e = filter-append p xs (y ∷ []) ∙ ap (λ t. filter p xs ++ cond t (y ∷ []) []) e

  head_append : (xs ys : List X) (x : X) → head xs ≡ Some x → head (xs ++ ys) ≡ Some x
  head_append [] ys x e = let z : ◌≡◌ {A = ℕ} 0 1 = cc in absurd (omega (arith, z))
  head_append (y ∷ xs) ys x e = e

  head_in : (xs : List X) (x : X) → head xs ≡ Some x → In xs x
  head_in [] x e = let z : ◌≡◌ {A = ℕ} 0 1 = cc in absurd (omega (arith, z))
  head_in (y ∷ xs) x e = inl cc

  head_none : (xs : List X) → head xs ≡ None → xs ≡ []
  head_none [] e = refl
  head_none (y ∷ xs) e = let z : ◌≡◌ {A = ℕ} 0 1 = cc in absurd (omega (arith, z))

  pub in_some : (xs : List X) (x : X) → In xs x → 1 ≤ length xs
  in_some [] x i = absurd i
  in_some (y ∷ xs) x i = omega arith

module _ {X : Type 0} (key : X → ℕ) where
  lowest_push : (xs : List X) (y : X) → 1 ≤ length xs → lowest key (xs ++ y ∷ []) ≡ min (lowest key xs) (key y)
  lowest_push [] y l = absurd (omega arith)
  lowest_push (x ∷ []) y l = refl
  lowest_push (x ∷ z ∷ zs) y l = let ih = lowest_push (z ∷ zs) y (omega arith) in omega arith

  low : (xs : List X) (n : ℕ) → lowest key xs ≡ n → minimal key xs ≡ filter (λ x. eqb (key x) n) xs
  low xs n e = ap (λ k. filter (λ x. eqb (key x) k) xs) e

  -- the key of the new one is above the least, equal to it, or below it
  pub minimal_over : (xs : List X) (y : X) → 1 ≤ length xs → lowest key xs < key y → minimal key (xs ++ y ∷ []) ≡ minimal key xs
  minimal_over xs y l o =
      low (xs ++ y ∷ []) (lowest key xs) (lowest_push xs y l ∙ omega arith)
      ∙ kept_push (λ x. eqb (key x) (lowest key xs)) xs y false (ne_eqb _ _ (λ e. omega arith)) ∙ append-nil (minimal key xs)

  pub minimal_same : (xs : List X) (y : X) → 1 ≤ length xs → lowest key xs ≡ key y → minimal key (xs ++ y ∷ []) ≡ minimal key xs ++ y ∷ []
  minimal_same xs y l e =
      low (xs ++ y ∷ []) (lowest key xs) (lowest_push xs y l ∙ omega arith)
      ∙ kept_push (λ x. eqb (key x) (lowest key xs)) xs y true (eq-eqb _ _ (sym e))

  pub minimal_under : (xs : List X) (y : X) → 1 ≤ length xs → key y < lowest key xs → minimal key (xs ++ y ∷ []) ≡ y ∷ []
  minimal_under xs y l u =
      low (xs ++ y ∷ []) (key y) (lowest_push xs y l ∙ omega arith)
      ∙ kept_push (λ x. eqb (key x) (key y)) xs y true (eq-eqb _ _ refl)
      ∙ ap (λ ys. ys ++ y ∷ []) (kept_none (λ x. eqb (key x) (key y)) xs (all_in _ xs (λ x i. ne_eqb _ _ (λ e. omega (arith, e, lowest_le key xs x i)))))

  -- what stands in `minimal`
  pub minimal_tells : (xs : List X) (x : X) → In (minimal key xs) x → In xs x × (key x ≡ lowest key xs)
  minimal_tells xs x i = let r = kept_in (λ y. eqb (key y) (lowest key xs)) xs x i in (r.0, eqb-true _ _ r.1)

  pub minimal_none : (xs : List X) → minimal key xs ≡ [] → xs ≡ []
  minimal_none [] e = refl
  minimal_none (x ∷ xs) e = absurd (omega (arith, minimal_some key (x ∷ xs) (omega (arith, ap length e))))

  pub least_tells : (xs : List X) (x : X) → least key xs ≡ Some x → In xs x × (key x ≡ lowest key xs)
  least_tells xs x e = minimal_tells xs x (head_in (minimal key xs) x e)

  pub least_none : (xs : List X) → least key xs ≡ None → xs ≡ []
  least_none xs e = minimal_none xs (head_none (minimal key xs) e)

  -- ---- the first of the least, and one more

  pub least_first : (xs : List X) (y : X) → least key xs ≡ None → least key (xs ++ y ∷ []) ≡ Some y
  least_first xs y e = ap (λ ys. least key (ys ++ y ∷ [])) (least_none xs e) ∙ ap (λ b. head (cond b (y ∷ []) [])) (eq-eqb (key y) (key y) refl)

  pub least_keeps : (xs : List X) (x y : X) → least key xs ≡ Some x → key x ≤ key y → least key (xs ++ y ∷ []) ≡ Some x
  least_keeps xs x y e l =
      let r = least_tells xs x e in
      let some = in_some xs x r.0 in
      ⊎_elim {C = least key (xs ++ y ∷ []) ≡ Some x}
      (λ o. ap head (minimal_over xs y some o) ∙ e)
      (λ s. ap head (minimal_same xs y some s) ∙ head_append (minimal key xs) (y ∷ []) x e)
      (⊎_elim {C = (lowest key xs < key y) ⊎ (lowest key xs ≡ key y)} (λ o. inl o) (λ u. inr (omega (arith, r.1))) (cases_lt (lowest key xs) (key y)))

  pub least_takes : (xs : List X) (x y : X) → least key xs ≡ Some x → key y < key x → least key (xs ++ y ∷ []) ≡ Some y
  least_takes xs x y e l =
      let r = least_tells xs x e in
      ap head (minimal_under xs y (in_some xs x r.0) (omega (arith, r.1)))

-- ---- the same choice through a function

module _ {X Y : Type 0} (f : X → Y) where
  pub head_map : (xs : List X) → head (map f xs) ≡ option_map f (head xs)
  head_map [] = refl
  head_map (x ∷ xs) = refl

  lowest_map : (key : Y → ℕ) (own : X → ℕ) (xs : List X) → AllByRecursion (λ x. key (f x) ≡ own x) xs → lowest key (map f xs) ≡ lowest own xs
  lowest_map key own [] a = refl
  lowest_map key own (x ∷ []) a = a.0
  lowest_map key own (x ∷ z ∷ zs) a = let ih = lowest_map key own (z ∷ zs) a.1 in omega (arith, ih, a.0)

  pub kept_through : (p : Y → Bool) (q : X → Bool) (xs : List X) → AllByRecursion (λ x. p (f x) ≡ q x) xs → filter p (map f xs) ≡ map f (filter q xs)
  kept_through p q xs a = kept_map p (λ x. p (f x)) f xs (λ _. refl) ∙ ap (map f) (kept_same (λ x. p (f x)) q xs a)

  pub minimal_through : (key : Y → ℕ) (own : X → ℕ) (xs : List X) → AllByRecursion (λ x. key (f x) ≡ own x) xs → minimal key (map f xs) ≡ map f (minimal own xs)
  minimal_through key own xs a =
      low key (map f xs) (lowest own xs) (lowest_map key own xs a)
      ∙ kept_through (λ y. eqb (key y) (lowest own xs)) (λ x. eqb (own x) (lowest own xs)) xs (All-weaker _ _ (λ x e. ap (λ k. eqb k (lowest own xs)) e) xs a)

  pub least_through : (key : Y → ℕ) (own : X → ℕ) (xs : List X) → AllByRecursion (λ x. key (f x) ≡ own x) xs → least key (map f xs) ≡ option_map f (least own xs)
  least_through key own xs a = ap head (minimal_through key own xs a) ∙ head_map (minimal own xs)
