-- Lists that a closure makes place by place.
use Rattle.std.proofs.Common.{◌≡◌, ℕ, zero, suc, ◌+◌, ◌<◌, ◌≤◌, List, map, get_or, sym, ◌∙◌, subst, ⊎_elim, arith}
use Rattle.std.specs.Array.{IsFromFnResult, IsFromFnResultFrom}
use Rattle.std.specs.List.{range_with_len}
use Rattle.std.proofs.lemmas.Bool.{cases_lt}
use Rattle.std.proofs.lemmas.List.FromFn.{fill_by_all}
use denote.Param.Members.{Mut, Called}

module _ {F B : Type 0} (g : Mut F (ℕ × Unit {0}) B) (h : ℕ → B) (f : F) (ys : List B) (d : B) (n : ℕ) (each : (k : ℕ) (y : B) (q : F) → k < n → Called g f (k, tt) y q → (q ≡ f) × (y ≡ h k)) where
  made_from : (i m k : ℕ) → i + m ≡ n → IsFromFnResultFrom g f ys i m → i ≤ k → k < n → get_or ys k d ≡ h k
  made_from i zero k s made l u = absurd (omega arith)
  made_from i (suc m) k s (q, y, at, called, rest) l u =
      let one = each i y q (omega arith) called in
      ⊎_elim
      (λ after. made_from (i + 1) m k (omega arith) (subst (λ p. IsFromFnResultFrom g p ys (i + 1) m) one.0 rest) (omega arith) u)
      (λ here. let e : k ≡ i = omega arith in subst (λ j. get_or ys j d ≡ h j) (sym e) (at.1 d ∙ one.1))
      (cases_lt i k)

  -- the calls of a closure that gives h k at each number k, and stays as it is
  pub made_is : IsFromFnResult g f ys n → ys ≡ map h (range_with_len 0 n)
  made_is made = fill_by_all h ys n d made.long (λ k l. made_from 0 n k (omega arith) made.each (omega arith) l)
