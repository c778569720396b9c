-- To move a source on, and on again.
use Rattle.std.proofs.Common.{◌≡◌, ℕ, zero, suc, ◌+◌, get_or, replicate, sym, refl, ap, ◌∙◌, suc-add, zero-add, add-one}
use Rattle.workload.specs.Draws.{ahead, next}

pub ahead_add : (j i x : ℕ) → ahead j (ahead i x) ≡ ahead (j + i) x
ahead_add zero i x = ap (λ n. ahead n x) (sym (zero-add i))
ahead_add (suc j) i x = ap next (ahead_add j i x) ∙ ap (λ n. ahead n x) (sym (suc-add j i))

pub ahead_more : (j x : ℕ) → next (ahead j x) ≡ ahead (j + 1) x
ahead_more j x = ap (λ n. ahead n x) (sym (add-one j))

-- every place of zeros is 0
pub zeros : (n k : ℕ) → get_or {A = ℕ} (replicate n 0) k 0 ≡ 0
zeros zero k = refl
zeros (suc n) zero = refl
zeros (suc n) (suc k) = zeros n k
