-- An item that is offered: where it is put, and what then goes without a place. Assumes nothing.
use Rattle.std.proofs.Common.{◌≡◌, ℕ, suc, ◌+◌, ◌-◌, ◌≤◌, Bool, true, false, cond, not, List, [], ◌∷◌, ◌++◌, length, get_or, take, drop, set, position, Some, None, sym, refl, ap, ◌∙◌, append_assoc, arith}
use Rattle.std.specs.List.{position_or_len}
use Rattle.std.proofs.lemmas.Bool.Decides.{nat_tests}
use borrow.Rule.Slice.PartMut.{put_mid}
use Rattle.std.proofs.lemmas.List.{append-nil, take_all, drop_all, take_more, drop_more, length-take, length-drop, get_or_at, set_at}
use Rattle.std.proofs.lemmas.List.Quantifiers.{position-Some}
use Rattle.keeper.specs.declared.Rank.{Rank}
use Rattle.keeper.specs.Ranks.{lower}
use Rattle.keeper.proofs.Puts.{put}

module _ {X : Type 0} (rank : X → Rank) (x : X) where
  -- ahead of the first that ranks above it
  put_there : (ys : List X) → put rank x ys ≡ take (position_or_len (λ y. lower (rank x) (rank y)) ys) ys ++ x ∷ drop (position_or_len (λ y. lower (rank x) (rank y)) ys) ys
  put_there [] = refl
  put_there (y ∷ ys) = go (put_there ys) (lower (rank x) (rank y))
    where
      n : ℕ
      n = position_or_len (λ y. lower (rank x) (rank y)) ys

      go : put rank x ys ≡ take n ys ++ x ∷ drop n ys → (t : Bool) → cond t (x ∷ y ∷ ys) (y ∷ put rank x ys) ≡ take (cond (not t) (1 + n) 0) (y ∷ ys) ++ x ∷ drop (cond (not t) (1 + n) 0) (y ∷ ys)
      go ih true = refl
      go ih false = let e : 1 + n ≡ suc n = omega arith in rw e (ap (λ l. y ∷ l) ih)

  pub put_at : (ys : List X) (i : ℕ) → position (λ y. lower (rank x) (rank y)) ys ≡ Some i → put rank x ys ≡ take i ys ++ x ∷ drop i ys
  put_at ys i e = put_there ys ∙ ap (λ k. take k ys ++ x ∷ drop k ys) (grind (arith, nat_tests))

  -- there, where those from i on are turned by one
  pub put_moves : (xs ys : List X) (i k : ℕ) (new out d : X) → new ≡ x → position (λ y. lower (rank x) (rank y)) xs ≡ Some i → k ≡ length xs - i
      → (let b = take k (drop i xs) in ys ≡ drop (length b - 1) b ++ take (length b - 1) b)
      → out ≡ get_or (put_mid i k xs ys) i d → put rank x xs ≡ set (put_mid i k xs ys) i new ++ out ∷ []
  put_moves xs ys i k new out d w e n r o =
      let there = position-Some (λ y. lower (rank x) (rank y)) xs i x e in
      let b = take k (drop i xs) in
      let m = length b - 1 in
      let last = get_or b m x in
      let front = take i xs in
      let rest : b ≡ drop i xs = take_all k (drop i xs) (omega (arith, length-drop i xs)) in
      let long : m + 1 ≡ length b = omega (arith, ap length rest, length-drop i xs, there.0) in
      let len : length front ≡ i = omega (arith, length-take i xs, there.0) in
      let turned : ys ≡ last ∷ take m b = r ∙ ap (λ l. l ++ take m b) (drop_more b m x (omega arith) ∙ ap (λ l. last ∷ l) (drop_all (m + 1) b (omega arith))) in
      let now : put_mid i k xs ys ≡ front ++ last ∷ take m b = ap (λ l. front ++ (ys ++ l)) (drop_all k (drop i xs) (omega (arith, length-drop i xs))) ∙ ap (λ l. front ++ l) (append-nil ys ∙ turned) in
      let whole : take m b ++ last ∷ [] ≡ drop i xs = sym (take_more b m x (omega arith)) ∙ take_all (m + 1) b (omega arith) ∙ rest in
      let same : out ≡ last = o ∙ ap (λ l. get_or l i d) now ∙ get_or_at front last (take m b) d i len in
      let after : set (put_mid i k xs ys) i new ≡ front ++ new ∷ take m b = ap (λ l. set l i new) now ∙ set_at front last (take m b) new i len in
      put_at xs i e
      ∙ ap (λ l. front ++ x ∷ l) (sym whole)
      ∙ sym (append_assoc front (x ∷ take m b) (last ∷ []))
      ∙ cc

  pub put_last : (ys : List X) → position (λ y. lower (rank x) (rank y)) ys ≡ None → put rank x ys ≡ ys ++ x ∷ []
  put_last ys e =
      let n = position_or_len (λ y. lower (rank x) (rank y)) ys in
      let past : length ys ≤ n = grind (arith, nat_tests) in
      put_there ys ∙ ap (λ l. l ++ x ∷ drop n ys) (take_all n ys past) ∙ ap (λ l. ys ++ x ∷ l) (drop_all n ys past)
