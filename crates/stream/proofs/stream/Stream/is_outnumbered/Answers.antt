use Rattle.std.proofs.Common.{◌≡◌, ℕ, ◌-◌, ◌*◌, ◌<◌, ◌≤◌, ltb, sym, ◌∙◌, ⊎_elim, arith}
use Rattle.std.proofs.lemmas.Bool.{cases_lt, lt-ltb, le-ltb}

-- twice as many are more than all
twice : (n l : ℕ) → l ≤ n → ltb (n - l) l ≡ ltb n (2 * l)
twice n l h = ⊎_elim (λ (a : n < 2 * l). lt-ltb (n - l) l (omega arith) ∙ sym (lt-ltb n (2 * l) a)) (λ (a : 2 * l ≤ n). le-ltb (n - l) l (omega arith) ∙ sym (le-ltb n (2 * l) a)) (cases_lt n (2 * l))
