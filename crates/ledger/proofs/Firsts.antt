-- The first of a list that passes a test. Assumes nothing.
use Rattle.std.proofs.Common.{◌≡◌, Bool, true, false, cond, List, [], ◌∷◌, map, filter, find, Some, refl}
use Rattle.std.specs.Option.{option_map}
use Rattle.rules.specs.Choosing.{chosen}

module _ {X : Type 0} (p : X → Bool) where
  pub chosen_found : (xs : List X) → chosen (filter p xs) ≡ find p xs
  chosen_found [] = refl
  chosen_found (x ∷ xs) = go (chosen_found xs) (p x)
    where
      go : chosen (filter p xs) ≡ find p xs → (t : Bool) → chosen (cond t (x ∷ filter p xs) (filter p xs)) ≡ cond t (Some x) (find p xs)
      go ih true = refl
      go ih false = ih

-- of what stands for the items
pub chosen_map : {X Y : Type 0} (f : X → Y) (p : Y → Bool) (xs : List X) → option_map f (chosen (filter (λ x. p (f x)) xs)) ≡ chosen (filter p (map f xs))
chosen_map f p [] = refl
chosen_map f p (x ∷ xs) = go (chosen_map f p xs) (p (f x))
  where
    go : option_map f (chosen (filter (λ x. p (f x)) xs)) ≡ chosen (filter p (map f xs)) → (t : Bool) → option_map f (chosen (cond t (x ∷ filter (λ x. p (f x)) xs) (filter (λ x. p (f x)) xs))) ≡ chosen (cond t (f x ∷ filter p (map f xs)) (filter p (map f xs)))
    go ih true = refl
    go ih false = ih
