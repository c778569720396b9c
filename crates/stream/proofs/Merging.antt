-- A merger closes a cluster.
use Rattle.std.proofs.Common.{◌≡◌, ℕ, zero, suc, ◌<◌, ◌≤◌, Bool, true, false, cond, not, eqb, List, [], ◌∷◌, map, length, get_or, filter, sym, refl, ap, ◌∙◌, arith}
use Rattle.std.proofs.lemmas.List.{length-map, get_or-map}
use Rattle.std.proofs.lemmas.Bool.{eq-eqb, eqb-true}
use Rattle.domain.specs.Meaning.{Meaning}
use Rattle.rules.specs.declared.Held.{Held}
use Rattle.rules.specs.Choosing.{different}
use Rattle.rules.specs.Clusters.{by_age, clusters}
use Rattle.rules.proofs.Totals.{kept_le, length_total, length_in_order}
use Rattle.pool.specs.declared.Cluster.{Cluster}
use Rattle.pool.specs.Changes.{replaced, union, taken_over}

module _ {X : Type 0} (p : X → Bool) where
  kept_length : (xs : List X) → length (filter p xs) ≤ length xs
  kept_length xs = omega (arith, kept_le (λ _. 1) p xs, length_total (filter p xs), length_total xs)

  kept_fewer : (xs : List X) (i : ℕ) (d : X) → i < length xs → p (get_or xs i d) ≡ false → length (filter p xs) < length xs
  kept_fewer [] i d l e = absurd (omega (arith, l))
  kept_fewer (x ∷ xs) zero d l e = omega (arith, ap (λ b. length (cond b (x ∷ filter p xs) (filter p xs))) e, kept_length xs)
  kept_fewer (x ∷ xs) (suc i) d l e = go (p x) (kept_fewer xs i d (omega (arith, l)) e)
    where
      go : (b : Bool) → length (filter p xs) < length xs → length (cond b (x ∷ filter p xs) (filter p xs)) < length (x ∷ xs)
      go true ih = omega (arith, ih)
      go false ih = omega (arith, ih)

-- the label of a row stays
label_stays : (row x : Cluster) → (replaced row x).label ≡ x.label
label_stays row x = go (eqb x.label row.label) refl
  where
    go : (b : Bool) → eqb x.label row.label ≡ b → (cond b row x).label ≡ x.label
    go true e = sym (eqb-true x.label row.label e)
    go false e = refl

pub rows_fewer : (m : Meaning) (hs : List Held) (xs : List Cluster) (x d : Cluster) (j : ℕ) → j < length xs → length (taken_over m hs x (get_or xs j d) xs) < length xs
rows_fewer m hs xs x d j l =
    let y = get_or xs j d in
    let f = replaced (union m hs x y) in
    let gone : not (eqb (get_or (map f xs) j d).label y.label) ≡ false =
    ap not (eq-eqb (get_or (map f xs) j d).label y.label (ap (λ (z : Cluster). z.label) (get_or-map f xs j d d l) ∙ label_stays (union m hs x y) y)) in
    omega (arith, kept_fewer (λ (z : Cluster). not (eqb z.label y.label)) (map f xs) j d (omega (arith, l, length-map xs f)) gone, length-map xs f)

different_le : (xs : List ℕ) → length (different xs) ≤ length xs
different_le [] = omega arith
different_le (x ∷ xs) = omega (arith, different_le xs, kept_length (λ y. not (eqb y x)) (different xs))

pub clusters_le : (hs : List Held) → length (clusters hs) ≤ length hs
clusters_le hs = omega (arith, length_in_order by_age (different (map (λ h. h.label) hs)), different_le (map (λ h. h.label) hs), length-map hs (λ (h : Held). h.label))
