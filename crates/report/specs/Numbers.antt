-- The numbers of a report line, as they are written. Assumes nothing.
use Rattle.std.specs.Prelude.{◌≡◌, ℕ, ◌+◌, ◌-◌, ◌*◌, ◌^◌, ◌<◌, Bool, cond, ◌&&◌, List, [], ◌∷◌, length, ℤ, pos, neg_ℤ, Some, None, Option, ◌==◌, nat_le, decimal, FitsSigned}
use Rattle.std.specs.Fmt.{signed_decimal}
use Rattle.std.specs.Int.{w32}

abbrev pub digit : ℕ → Bool
digit c = nat_le 48 c && nat_le c 57

-- digits read behind the number n
abbrev pub behind_number : ℕ → List ℕ → Option ℕ
behind_number n [] = Some n
behind_number n (c ∷ cs) = cond (digit c) (behind_number (n * 10 + (c - 48)) cs) None

-- 1 to 10 digits
abbrev pub digits_of : List ℕ → Option ℕ
digits_of bs = cond (nat_le 1 (length bs) && nat_le (length bs) 10) (behind_number 0 bs) None

abbrev pub at_most : ℕ → Option ℕ → Option ℕ
at_most top None = None
at_most top (Some n) = cond (nat_le n top) (Some n) None

-- an owner or a value: an unsigned 32-bit number
abbrev pub number_of : List ℕ → Option ℕ
number_of bs = at_most 4294967295 (digits_of bs)

abbrev pub as_positive : Option ℕ → Option ℤ
as_positive None = None
as_positive (Some n) = Some (pos n)

abbrev pub as_negative : Option ℕ → Option ℤ
as_negative None = None
as_negative (Some n) = Some (neg_ℤ (pos n))

-- a reading: a signed 32-bit number, a minus (45) in front if it is negative
abbrev pub reading_of : List ℕ → Option ℤ
reading_of [] = None
reading_of (b ∷ bs) = cond (b == 45) (as_negative (at_most 2147483648 (digits_of bs))) (as_positive (at_most 2147483647 (digits_of (b ∷ bs))))

-- what std writes of a number is read as that number
pub record ReadsBack : Type 0 where
  pub number : (n : ℕ) → n < 2 ^ 32 → number_of (decimal n) ≡ Some n
  pub reading : (z : ℤ) → FitsSigned w32 z → reading_of (signed_decimal z) ≡ Some z
