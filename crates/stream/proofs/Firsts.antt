-- The first reason, as it is searched for.
use Rattle.std.proofs.Common.{◌≡◌, Bool, true, false, cond, List, [], ◌∷◌, map, Some, None, Option, refl}
use Rattle.std.specs.Option.{option_map}
use Rattle.std.specs.List.{find}
use Rattle.rules.specs.Refusals.{if_so, first_of}

pub found_first : {A B : Type 0} (p : A → Bool) (f : A → B) (xs : List A) → option_map f (find p xs) ≡ first_of (map (λ x. if_so (p x) (f x)) xs)
found_first p f [] = refl
found_first {A} {B} p f (x ∷ xs) = go (p x) (found_first p f xs)
  where
    go : (b : Bool) → option_map f (find p xs) ≡ first_of (map (λ y. if_so (p y) (f y)) xs) → option_map f (cond b (Some x) (find p xs)) ≡ first_of (if_so b (f x) ∷ map (λ y. if_so (p y) (f y)) xs)
    go true ih = refl
    go false ih = ih

pub map_same : {A : Type 0} (o : Option A) → option_map (λ x. x) o ≡ o
map_same None = refl
map_same (Some x) = refl
