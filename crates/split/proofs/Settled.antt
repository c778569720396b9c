-- The part that grows least.
use Rattle.std.proofs.Common.{◌≡◌, ℕ, ◌<◌, ◌≤◌, Bool, cond, ltb, List, [], ◌∷◌, map, length, get_or, Some, None, Option, MatchOption, Bor, sym, ap, ◌∙◌, subst, zero-add, arith}
use denote.Param.Members.{Mut}
use Rattle.std.specs.declared.cmp.Ordering.{Ordering}
use Rattle.std.specs.declared.cmp.Ordering.TheVariants.{Less, Equal, Greater}
use Rattle.std.specs.Fn.{CalledAt}
use Rattle.std.specs.Iterator.{KeyTurn, PicksMinByKey}
use Rattle.std.specs.List.{IsFirstBest, FoldsTo, enumerate_from, best_of}
use Rattle.std.specs.Ordering.{MatchOrdering, nat_cmp, min_by_ordering}
use Rattle.std.proofs.iter.Yields.{gives_Drains}
use Rattle.std.proofs.lemmas.Cmp.{ranked}
use Rattle.std.proofs.lemmas.Iterator.{YieldsList}
use Rattle.std.proofs.lemmas.List.FromFn.{length-enumerate_from, get_or-enumerate_from}
use Rattle.std.proofs.lemmas.List.MinMax.{IsStrictWeakOrder-by_number, IsFirstBest-from_best_of}
use Rattle.std.proofs.lemmas.Bool.{lt-ltb, le-ltb}

-- ---- the first of those that have the least key, as `min_by_key` picks it

module _ {X A F : Type 0} (v : A → X) (key : X → ℕ) (g : Mut F (Bor A × Unit {0}) ℕ) (f : F) (calls : (x : A) (k : ℕ) (q : F) → CalledAt g f x k q → (q ≡ f) × (k ≡ key (v x))) where
  lower : X → X → Bool
  lower x y = ltb (key x) (key y)

  takes : (a b : ℕ) (o : Ordering) (x y : A) → MatchOrdering o (a < b) (a ≡ b) (b < a) → v (min_by_ordering o x y) ≡ cond (ltb b a) (v y) (v x)
  takes a b Less x y h = sym (ap (λ t. cond t (v y) (v x)) (le-ltb b a (omega (arith, h))))
  takes a b Equal x y h = sym (ap (λ t. cond t (v y) (v x)) (le-ltb b a (omega (arith, h))))
  takes a b Greater x y h = sym (ap (λ t. cond t (v y) (v x)) (lt-ltb b a h))

  keys : (a b : ℕ) (o : Ordering) (x y : A) → a ≡ key (v x) → b ≡ key (v y) → min_by_ordering o a b ≡ key (v (min_by_ordering o x y))
  keys a b Less x y d e = d
  keys a b Equal x y d e = d
  keys a b Greater x y d e = e

  picked : (xs : List A) (e : F) (k : ℕ) (y z : A) (q : F × ℕ) → e ≡ f → k ≡ key (v y) → FoldsTo {P = (F × ℕ) × A} (KeyTurn min_by_ordering min_by_ordering g nat_cmp) ((e, k), y) xs (q, z)
      → v z ≡ best_of (λ x y. ltb (key x) (key y)) (v y) (map v xs)
  picked [] e k y z q same l path = sym (ap (λ p. v p.1) path)
  picked (x ∷ xs) e k y z q same l (j, turn, rest) =
      let called = calls x turn.0 j.0.0 (subst (λ t. CalledAt g t x turn.0 j.0.0) same turn.2) in
      let best : v j.1 ≡ cond (ltb (key (v x)) (key (v y))) (v x) (v y) =
      ap v turn.5 ∙ takes k turn.0 turn.1 y x (ranked k turn.0 turn.1 (sym turn.3)) ∙ ap (λ t. cond t (v x) (v y)) (ap (λ n. ltb n k) called.1 ∙ ap (ltb (key (v x))) l) in
      picked xs j.0.0 j.0.1 j.1 z q called.0 (turn.4 ∙ keys k turn.0 turn.1 y x l called.1 ∙ ap (λ t. key (v t)) (sym turn.5)) rest
      ∙ ap (λ t. best_of (λ x y. ltb (key x) (key y)) t (map v xs)) best

module _ {X : Type 0} (key : X → ℕ) (xs : List X) where
  -- by places in the list, of what stands in it beside its place
  first_best : (b : ℕ) → IsFirstBest (λ (p q : ℕ × X). ltb (key p.1) (key q.1)) (enumerate_from 0 xs) (length xs) b → IsFirstBest (λ x y. ltb (key x) (key y)) xs (length xs) b
  first_best b so = (
    so.0,
    λ k d l. ap (λ t. ltb (key t) (key (get_or xs b d))) (sym (at k d l)) ∙ ap (λ t. ltb (key (get_or (enumerate_from 0 xs) k (0, d)).1) (key t)) (sym (at b d so.0)) ∙ so.1 k (0, d) l,
    λ k d l. ap (λ t. ltb (key (get_or xs b d)) (key t)) (sym (at k d (omega (arith, l, so.0)))) ∙ ap (λ t. ltb (key t) (key (get_or (enumerate_from 0 xs) k (0, d)).1)) (sym (at b d so.0)) ∙ so.2 k (0, d) l,
  )
    where
      at : (k : ℕ) (d : X) → k < length xs → (get_or (enumerate_from 0 xs) k (0, d)).1 ≡ get_or xs k d
      at k d l = ap (λ p. p.1) (get_or-enumerate_from 0 xs k (0, d) l)

pub first_least : {X F S : Type 0} {steps : S → Option (ℕ × Bor X) → S → Type 0} {s : S} (key : X → ℕ) (xs : List X) (g : Mut F (Bor (ℕ × Bor X) × Unit {0}) ℕ) (f : F) (r : Option (ℕ × Bor X)) (place : ℕ) → 1 ≤ length xs
    → PicksMinByKey steps g nat_cmp s f r → YieldsList steps (λ p. (p.0, p.1.now)) s (enumerate_from 0 xs) → ((x : ℕ × Bor X) (k : ℕ) (q : F) → CalledAt g f x k q → (q ≡ f) × (k ≡ key x.1.now))
    → MatchOption r (place ≡ 0) (λ p. place ≡ p.0) → IsFirstBest (λ x y. ltb (key x) (key y)) xs (length xs) place
first_least {steps = steps} {s = s} key xs g f None place some picks chain calls is =
    absurd (omega (arith, some, length-enumerate_from 0 xs, ap length (gives_Drains steps (λ p. (p.0, p.1.now)) [] (enumerate_from 0 xs) s chain.runs picks)))
first_least {X = X} {steps = steps} {s = s} key xs g f (Some y) place some (x, ys, k, h, q, drains, call, turns) chain calls is =
    let v : ℕ × Bor X → ℕ × X = λ p. (p.0, p.1.now) in
    let all : map v (x ∷ ys) ≡ enumerate_from 0 xs = gives_Drains steps v (x ∷ ys) (enumerate_from 0 xs) s chain.runs drains in
    let called = calls x k h call in
    let best = picked v (λ p. key p.1) g f calls ys h k x y q called.0 called.1 turns in
    let first = IsFirstBest-from_best_of (IsStrictWeakOrder-by_number (λ (p : ℕ × X). key p.1)) (v x) (map v ys) in
    let long : length (map v (x ∷ ys)) ≡ length xs = ap length all ∙ length-enumerate_from 0 xs in
    let so : IsFirstBest (λ (p q : ℕ × X). ltb (key p.1) (key q.1)) (enumerate_from 0 xs) (length xs) first.0 =
    subst (λ l. IsFirstBest (λ (p q : ℕ × X). ltb (key p.1) (key q.1)) l (length xs) first.0) all (subst (λ n. IsFirstBest (λ (p q : ℕ × X). ltb (key p.1) (key q.1)) (map v (x ∷ ys)) n first.0) long first.1) in
    let here : place ≡ first.0 =
    is ∙ ap (λ p. p.0) (best ∙ sym first.2 ∙ ap (λ l. get_or l first.0 (v x)) all ∙ get_or-enumerate_from 0 xs first.0 (v x) so.0) ∙ zero-add first.0 in
    subst (IsFirstBest (λ x y. ltb (key x) (key y)) xs (length xs)) (sym here) (first_best key xs first.0 so)
