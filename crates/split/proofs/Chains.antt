-- What chains over lists answer, in this crate's words.
use Rattle.std.proofs.Common.{◌≡◌, ℕ, Bool, true, false, cond, ◌||◌, eqb, List, [], ◌∷◌, map, find, Some, filter, refl, ap, option_map, option_and_then}
use Rattle.std.specs.List.{list_any}
use Rattle.rules.specs.Choosing.{head, listed}
use Rattle.split.specs.declared.faces.Face.{Face}
use Rattle.split.specs.Faces.{owner_of, lacks_part, place_among}
use Rattle.split.specs.Near.{remaining}

pub listed_any : {X : Type 0} (f : X → ℕ) (w : ℕ) (xs : List X) → list_any (λ x. eqb (f x) w) xs ≡ listed w (map f xs)
listed_any f w [] = refl
listed_any f w (x ∷ xs) = ap (λ b. eqb (f x) w || b) (listed_any f w xs)

pub place_found : (w : ℕ) (fs : List Face) → option_and_then (λ f. f.part) (find (λ f. eqb (owner_of f) w) fs) ≡ place_among fs w
place_found w [] = refl
place_found w (f ∷ fs) = go (eqb (owner_of f) w) (place_found w fs)
  where
    go : (b : Bool) → option_and_then (λ f. f.part) (find (λ f. eqb (owner_of f) w) fs) ≡ place_among fs w
        → option_and_then (λ f. f.part) (cond b (Some f) (find (λ f. eqb (owner_of f) w) fs)) ≡ cond b f.part (place_among fs w)
    go true ih = refl
    go false ih = ih

pub first_found : (fs : List Face) → option_map (λ f. f.stand_in) (find lacks_part fs) ≡ head (remaining fs)
first_found [] = refl
first_found (f ∷ fs) = go (lacks_part f) (first_found fs)
  where
    go : (b : Bool) → option_map (λ f. f.stand_in) (find lacks_part fs) ≡ head (remaining fs)
        → option_map (λ f. f.stand_in) (cond b (Some f) (find lacks_part fs)) ≡ head (map (λ f. f.stand_in) (cond b (f ∷ filter lacks_part fs) (filter lacks_part fs)))
    go true ih = refl
    go false ih = ih
