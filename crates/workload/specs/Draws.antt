-- A source of numbers by shifts and exclusive or, on 64 bits. Assumes nothing.
use Rattle.std.specs.Prelude.{ℕ, zero, suc, ◌*◌, ◌/◌, ◌%◌, ◌^◌, bit_xor}

-- what every source begins with
abbrev pub seed : ℕ
seed = 0x9e37_79b9_7f4a_7c15

-- x with itself shifted to the left, or to the right, by k bits
abbrev pub left : ℕ → ℕ → ℕ
left k x = bit_xor x (x * 2 ^ k % 2 ^ 64)

abbrev pub right : ℕ → ℕ → ℕ
right k x = bit_xor x (x / 2 ^ k)

-- what the source holds after one more draw
unfoldable pub next : ℕ → ℕ
next x = left 17 (right 7 (left 13 x))

-- and after j more
abbrev pub ahead : ℕ → ℕ → ℕ
ahead zero x = x
ahead (suc j) x = next (ahead j x)

-- so much of n as the upper half of x is of 2 ^ 32
unfoldable pub part : ℕ → ℕ → ℕ
part n x = x / 2 ^ 32 * n / 2 ^ 32

-- the j-th number that is drawn from a source that holds x, if it is to be below n
abbrev pub drawn : ℕ → ℕ → ℕ → ℕ
drawn x j n = part n (ahead j x)
