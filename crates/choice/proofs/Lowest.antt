-- What `min_by_key` gives: the later of two only if its key is lower.
use Rattle.std.proofs.Common.{◌≡◌, ℕ, ◌<◌, ◌≤◌, List, [], ◌∷◌, ◌++◌, Some, None, fold, Option, sym, refl, ap, ◌∙◌, subst, ⊎_elim, arith}
use Rattle.std.specs.Fn.{CalledAt}
use Rattle.std.specs.Cmp.{ranks, nat_cmp_is}
use Rattle.std.specs.Iterator.{PicksMinByKey}
use Rattle.std.specs.List.{reduce}
use Rattle.std.specs.Ordering.{min_by_ordering, nat_cmp, MatchOrdering}
use Rattle.std.specs.declared.cmp.Ordering.{Ordering}
use Rattle.std.specs.declared.cmp.Ordering.TheVariants.{Less, Equal, Greater}
use Rattle.std.proofs.iter.Yields.{gives_Drains}
use Rattle.std.proofs.lemmas.Bool.{cases_lt}
use Rattle.std.proofs.lemmas.Fn.{chained_keeps}
use Rattle.std.proofs.lemmas.Iterator.{YieldsList}
use Rattle.std.proofs.lemmas.List.{append_assoc, append-nil, map-id}
use Rattle.std.proofs.lemmas.List.Sums.{fold_push}
use Rattle.rules.specs.Choosing.{least}
use Rattle.choice.proofs.Firsts.{least_first, least_keeps, least_takes}
use denote.Param.Members.{Mut}
use denote.Ref.{Bor}

module _ {A K : Type 0} (key : A → K) (cmp : K → K → Ordering) where
  abbrev pub lower : A → A → A
  lower b x = min_by_ordering (cmp (key b) (key x)) b x

  key_pick : (o : Ordering) (b x : A) → min_by_ordering o (key b) (key x) ≡ key (min_by_ordering o b x)
  key_pick Less b x = refl
  key_pick Equal b x = refl
  key_pick Greater b x = refl

  -- a call more, and what it leaves: the value, the key of the best, and the best
  abbrev Turn : {F : Type 0} → Mut F (Bor A × Unit {0}) K → (F × K) × A → A → (F × K) × A → Type 0
  Turn g p x q = (k : K) × (o : Ordering) × CalledAt g p.0.0 x k q.0.0 × (cmp p.0.1 k ≡ o) × (q.0.1 ≡ min_by_ordering o p.0.1 k) × (q.1 ≡ min_by_ordering o p.1 x)

  module _ {S F : Type 0} {steps : S → Option A → S → Type 0} {s : S} {all : List A} (g : Mut F (Bor A × Unit {0}) K) {f : F} (step : (x : A) (k : K) (q : F) → CalledAt g f x k q → (q ≡ f) × (k ≡ key x)) where
    pub min_from_chain : (r : Option A) → PicksMinByKey steps g cmp s f r → YieldsList steps (λ x. x) s all → r ≡ reduce lower all
    min_from_chain None d y = ap (reduce lower) (gives_Drains steps (λ x. x) [] all s y.runs d)
    min_from_chain (Some last) d y =
        let first = step d.0 d.2 d.3 d.6 in
        let ran = chained_keeps {P = (F × K) × A} (Turn g) (λ ys q. (q.0.0 ≡ f) × (q.0.1 ≡ key q.1) × (q.1 ≡ fold lower d.0 ys))
        (λ ys q z v j t.
        let said = step z t.0 v.0.0 (subst (λ w. CalledAt g w z t.0 v.0.0) j.0 t.2) in
        let order : t.1 ≡ cmp (key q.1) (key z) = sym t.3 ∙ ap (λ k. cmp k t.0) j.1 ∙ ap (cmp (key q.1)) said.1 in (
          said.0,
          t.4 ∙ ap (λ k. min_by_ordering t.1 k t.0) j.1 ∙ ap (min_by_ordering t.1 (key q.1)) said.1 ∙ key_pick t.1 q.1 z ∙ ap key (sym t.5),
          t.5 ∙ ap (λ w. min_by_ordering w q.1 z) order ∙ ap (λ w. lower w z) j.2 ∙ sym (fold_push lower d.0 ys z),
        ))
        d.1 ((d.3, d.2), d.0) (d.4, last) (first.0, first.1, refl) d.7 in
        ap Some ran.2 ∙ ap (reduce lower) (sym (map-id (d.0 ∷ d.1)) ∙ gives_Drains steps (λ x. x) (d.0 ∷ d.1) all s y.runs d.5)

-- a choice that one more at the end changes as `low` says
module _ {X : Type 0} (best : List X → Option X) (low : X → X → X) (one : (x : X) → best (x ∷ []) ≡ Some x) (more : (xs : List X) (b x : X) → best xs ≡ Some b → best (xs ++ x ∷ []) ≡ Some (low b x)) where
  from : (ys : List X) (b : X) (xs : List X) → best ys ≡ Some b → Some (fold low b xs) ≡ best (ys ++ xs)
  from ys b [] e = sym e ∙ ap best (sym (append-nil ys))
  from ys b (z ∷ zs) e = from (ys ++ z ∷ []) (low b z) zs (more ys b z e) ∙ ap best (append_assoc ys (z ∷ []) zs)

  pub reduced : best [] ≡ None → (xs : List X) → reduce low xs ≡ best xs
  reduced none [] = sym none
  reduced none (x ∷ xs) = from (x ∷ []) x xs (one x)

-- ---- by a number

module _ {X : Type 0} (m n : ℕ) (b x : X) where
  pub stays : m ≤ n → min_by_ordering (nat_cmp m n) b x ≡ b
  stays l = go (nat_cmp m n) (ranks m n)
    where
      go : (o : Ordering) → MatchOrdering o (m < n) (m ≡ n) (n < m) → min_by_ordering o b x ≡ b
      go Less h = refl
      go Equal h = refl
      go Greater h = absurd (omega (arith, h, l))

  pub gives_way : n < m → min_by_ordering (nat_cmp m n) b x ≡ x
  gives_way l = ap (λ w. min_by_ordering w b x) (sym (nat_cmp_is m n Greater l))

module _ {X : Type 0} (key : X → ℕ) where
  pub least_more : (xs : List X) (b x : X) → least key xs ≡ Some b → least key (xs ++ x ∷ []) ≡ Some (lower key nat_cmp b x)
  least_more xs b x e = ⊎_elim {C = least key (xs ++ x ∷ []) ≡ Some (lower key nat_cmp b x)}
      (λ l. least_takes key xs b x e l ∙ ap Some (sym (gives_way (key b) (key x) b x l)))
      (λ l. least_keeps key xs b x e l ∙ ap Some (sym (stays (key b) (key x) b x l)))
      (cases_lt (key x) (key b))

  pub least_reduced : (xs : List X) → reduce (lower key nat_cmp) xs ≡ least key xs
  least_reduced = reduced (least key) (lower key nat_cmp) (λ x. least_first key [] x refl) least_more refl
