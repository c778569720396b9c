-- What a domain means, and what its four questions answer. Assumes nothing.
use Rattle.std.specs.Prelude.{◌≡◌, ℕ, ◌+◌, ◌-◌, ◌*◌, ◌/◌, ◌≤◌, min, Bool, true, cond, ◌&&◌, nat_lt}
use Rattle.domain.specs.declared.range.Range.{Range}
use Rattle.domain.specs.Ranges.{point, Inside}

-- the loss of a range that tells nothing
abbrev pub full_loss : ℕ
full_loss = 10000

-- the part of the full loss that a has of w, by length and rounded down. A quotient by 0 is 0
abbrev pub share : Range → Range → ℕ
share w a = full_loss * (a.high - a.low) / (w.high - w.low)

-- how many attributes a box has places for
abbrev pub places : ℕ
places = 6

-- j is the least allowed range that contains both a and b
pub record Least (allowed : Range → Bool) (a b j : Range) : Type 0 where
  pub is_allowed : allowed j ≡ true
  pub first : Inside a j
  pub second : Inside b j
  pub least : (k : Range) → allowed k ≡ true → Inside a k → Inside b k → Inside j k

-- what the four parts of an attribute owe one another
pub record Facts (admitted : ℕ → Bool) (allowed : Range → Bool) (join : Range → Range → Range) (loss : Range → ℕ) : Type 0 where
  pub ordered : (a : Range) → allowed a ≡ true → a.low ≤ a.high
  pub points : (v : ℕ) → admitted v ≡ true → allowed (point v) ≡ true
  pub lossless : (v : ℕ) → admitted v ≡ true → loss (point v) ≡ 0
  pub joins : (a b : Range) → allowed a ≡ true → allowed b ≡ true → Least allowed a b (join a b)
  pub monotone : (a b : Range) → allowed a ≡ true → allowed b ≡ true → Inside a b → loss a ≤ loss b
  pub bounded : (a : Range) → allowed a ≡ true → loss a ≤ full_loss

-- one attribute: its values, its ranges, the join of two and the loss of one
pub record Attribute : Type 0 where
  pub admitted : ℕ → Bool
  pub allowed : Range → Bool
  pub join : Range → Range → Range
  pub loss : Range → ℕ
  pub facts : Facts admitted allowed join loss

-- a domain: the attributes 0 to n - 1
pub record Meaning : Type 0 where
  pub n : ℕ
  pub wide : 1 ≤ n
  pub attribute : ℕ → Attribute

-- attribute i is known: one of the domain's, and one that a box has a place for
abbrev pub known : Meaning → ℕ → Bool
known m i = nat_lt i m.n && nat_lt i places

-- the answers to the four questions: n, or 7 for seven and more
abbrev pub width_of : Meaning → ℕ
width_of m = min (places + 1) m.n

-- admitted, of a known attribute
abbrev pub admits_of : Meaning → ℕ → ℕ → Bool
admits_of m i v = known m i && (m.attribute i).admitted v

-- the join of allowed ranges of a known attribute, else the first range
abbrev pub join_of : Meaning → ℕ → Range → Range → Range
join_of m i a b = cond (known m i && ((m.attribute i).allowed a && (m.attribute i).allowed b)) ((m.attribute i).join a b) a

-- the loss of an allowed range of a known attribute, else 0
abbrev pub loss_of : Meaning → ℕ → Range → ℕ
loss_of m i a = cond (known m i && (m.attribute i).allowed a) ((m.attribute i).loss a) 0
