-- A part of n is below n.
use Rattle.std.proofs.Common.{ℕ, ◌+◌, ◌*◌, ◌/◌, ◌^◌, ◌<◌, ◌≤◌, add-mul, arith}
use Rattle.std.proofs.lemmas.Nat.{div_below, mul-le}
use Rattle.workload.specs.Draws.{part}

-- the product stays below n times 2 ^ 32
pub product_below : (n x : ℕ) → x < 2 ^ 64 → 0 < n → x / 2 ^ 32 * n < n * 2 ^ 32
product_below n x h p =
    let half : x / 2 ^ 32 < 2 ^ 32 = div_below x (2 ^ 32) (2 ^ 32) (omega arith) h in
    let more : (x / 2 ^ 32 + 1) * n ≤ 2 ^ 32 * n = mul-le (x / 2 ^ 32 + 1) n (2 ^ 32) n (omega arith) (omega arith) in
    let spread = add-mul (x / 2 ^ 32) 1 n in
    omega arith

pub part_below : (n x : ℕ) → x < 2 ^ 64 → 0 < n → part n x < n
unfolding part
part_below n x h p = div_below (x / 2 ^ 32 * n) (2 ^ 32) n (omega arith) (product_below n x h p)
