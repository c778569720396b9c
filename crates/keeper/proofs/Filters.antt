-- What one filter leaves of another. Assumes nothing.
use Rattle.std.proofs.Common.{◌≡◌, Bool, true, false, cond, List, [], ◌∷◌, filter, refl, ap, ◌∙◌}
use Rattle.std.specs.List.{AllByRecursion}
use Rattle.std.proofs.lemmas.Bool.{both_ways}

module _ {X : Type 0} (p : X → Bool) where
  pub kept_by_none : (xs : List X) → AllByRecursion (λ x. p x ≡ false) xs → filter p xs ≡ []
  kept_by_none [] h = refl
  kept_by_none (x ∷ xs) h = ap (λ t. cond t (x ∷ filter p xs) (filter p xs)) h.0 ∙ kept_by_none xs h.1

  pub kept_by_yes : (x : X) (xs : List X) → p x ≡ true → filter p (x ∷ xs) ≡ x ∷ filter p xs
  kept_by_yes x xs h = ap (λ t. cond t (x ∷ filter p xs) (filter p xs)) h

  pub kept_by_no : (x : X) (xs : List X) → p x ≡ false → filter p (x ∷ xs) ≡ filter p xs
  kept_by_no x xs h = ap (λ t. cond t (x ∷ filter p xs) (filter p xs)) h

module _ {X : Type 0} (p : X → Bool) where
  -- q takes nothing that p does not take
  pub kept_by_within : (q : X → Bool) → ((x : X) → q x ≡ true → p x ≡ true) → (xs : List X) → filter q (filter p xs) ≡ filter q xs
  kept_by_within q h [] = refl
  kept_by_within q h (x ∷ xs) = go (kept_by_within q h xs) (p x) (q x) refl refl
    where
      go : filter q (filter p xs) ≡ filter q xs → (s t : Bool) → p x ≡ s → q x ≡ t → filter q (cond s (x ∷ filter p xs) (filter p xs)) ≡ cond t (x ∷ filter q xs) (filter q xs)
      go ih true true e f = kept_by_yes q x (filter p xs) f ∙ ap (λ l. x ∷ l) ih
      go ih true false e f = kept_by_no q x (filter p xs) f ∙ ih
      go ih false true e f = absurd (both_ways (p x) e (h x f))
      go ih false false e f = ih

  -- q takes nothing that p takes
  pub kept_by_apart : (q : X → Bool) → ((x : X) → q x ≡ true → p x ≡ false) → (xs : List X) → filter q (filter p xs) ≡ []
  kept_by_apart q h [] = refl
  kept_by_apart q h (x ∷ xs) = go (kept_by_apart q h xs) (p x) (q x) refl refl
    where
      go : filter q (filter p xs) ≡ [] → (s t : Bool) → p x ≡ s → q x ≡ t → filter q (cond s (x ∷ filter p xs) (filter p xs)) ≡ []
      go ih true true e f = absurd (both_ways (p x) (h x f) e)
      go ih true false e f = kept_by_no q x (filter p xs) f ∙ ih
      go ih false t e f = ih
