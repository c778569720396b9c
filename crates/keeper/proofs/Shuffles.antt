-- In order, a list has the elements that it had. Assumes nothing.
use Rattle.std.proofs.Common.{Bool, true, false, cond, not, List, [], ◌∷◌, ◌++◌, filter, refl, arith}
use Rattle.std.specs.List.Sorted.{IsPermutation}
use Rattle.std.proofs.lemmas.List.Sorted.{IsPermutation-refl, IsPermutation-cons, IsPermutation-swap, IsPermutation-trans}
use Rattle.keeper.specs.declared.Rank.{Rank}
use Rattle.keeper.specs.Ranks.{lower}
use Rattle.keeper.specs.Leasts.{in_order}

module _ {X : Type 0} where
  shuffled_middle : (x : X) (xs ys : List X) → IsPermutation (x ∷ xs ++ ys) (xs ++ x ∷ ys)
  shuffled_middle x [] ys = IsPermutation-refl (x ∷ ys)
  shuffled_middle x (a ∷ xs) ys =
      IsPermutation-trans (x ∷ a ∷ xs ++ ys) (a ∷ x ∷ xs ++ ys) (a ∷ xs ++ x ∷ ys)
      (IsPermutation-swap (x ∷ a ∷ xs ++ ys) (a ∷ x ∷ xs ++ ys) 0 1 (omega arith) (omega arith) refl)
      (IsPermutation-cons a (x ∷ xs ++ ys) (xs ++ x ∷ ys) (shuffled_middle x xs ys))

  shuffled_parts : (p : X → Bool) (xs : List X) → IsPermutation xs (filter p xs ++ filter (λ x. not (p x)) xs)
  shuffled_parts p [] = IsPermutation-refl []
  shuffled_parts p (x ∷ xs) = go (shuffled_parts p xs) (p x)
    where
      go : IsPermutation xs (filter p xs ++ filter (λ x. not (p x)) xs) → (t : Bool) → IsPermutation (x ∷ xs) (cond t (x ∷ filter p xs) (filter p xs) ++ cond (not t) (x ∷ filter (λ x. not (p x)) xs) (filter (λ x. not (p x)) xs))
      go ih true = IsPermutation-cons x xs _ ih
      go ih false = IsPermutation-trans (x ∷ xs) _ _ (IsPermutation-cons x xs _ ih) (shuffled_middle x (filter p xs) (filter (λ x. not (p x)) xs))

  pub shuffled_in_order : (rank : X → Rank) (xs : List X) → IsPermutation xs (in_order rank xs)
  shuffled_in_order rank [] = IsPermutation-refl []
  shuffled_in_order rank (x ∷ xs) =
      let ys = in_order rank xs in
      let low : X → Bool = λ y. lower (rank y) (rank x) in
      IsPermutation-trans (x ∷ xs) (x ∷ ys) _ (IsPermutation-cons x xs ys (shuffled_in_order rank xs))
      (IsPermutation-trans (x ∷ ys) (x ∷ (filter low ys ++ filter (λ y. not (low y)) ys)) _ (IsPermutation-cons x ys _ (shuffled_parts low ys)) (shuffled_middle x (filter low ys) (filter (λ y. not (low y)) ys)))
