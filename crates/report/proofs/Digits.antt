-- One digit more. Assumes nothing.
use Rattle.std.proofs.Common.{◌≡◌, ℕ, ◌+◌, ◌-◌, ◌*◌, ◌^◌, ◌<◌, ◌≤◌, true, List, length, get_or, drop, None, sym, ap, ◌∙◌, pow-suc, add-one, arith}
use Rattle.std.proofs.Math.Nat.{pow-le-pow_right}
use Rattle.std.proofs.lemmas.List.{at_drop_more}
use Rattle.std.proofs.lemmas.Bool.{cond-true}
use Rattle.report.specs.Numbers.{digit, behind_number}

pub digit_more : (n : ℕ) (text : List ℕ) (i : ℕ) → i < length text → true ≡ digit (get_or text i 0) → behind_number (n * 10 + (get_or text i 0 - 48)) (drop (i + 1) text) ≡ behind_number n (drop i text)
digit_more n text i h t = sym (at_drop_more (behind_number n) text i 0 h ∙ cond-true (digit (get_or text i 0)) _ None (sym t))

pub power : (n i d : ℕ) → n < 10 ^ i → d < 10 → n * 10 + d < 10 ^ (i + 1)
power n i d h k = let p : 10 ^ (i + 1) ≡ 10 ^ i * 10 = ap (λ j. 10 ^ j) (add-one i) ∙ pow-suc 10 i in omega arith

-- fewer than ten digits
pub short : (n i : ℕ) → n < 10 ^ i → i < 10 → n < 10 ^ 9
short n i h k = let p : 10 ^ i ≤ 10 ^ 9 = pow-le-pow_right {n = 10} (omega arith) {i = i} {j = 9} (omega arith) in omega arith
