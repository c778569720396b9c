-- A checksum over words of 32 bits. Assumes nothing.
use Rattle.std.specs.Prelude.{ℕ, ◌*◌, ◌%◌, ◌^◌, List, [], ◌∷◌, bit_xor}
use Rattle.std.specs.Int.{w32}
use Rattle.std.proofs.Common.{of_z}
use Rattle.domain.specs.declared.range.Range.{Range}
use Rattle.release.specs.declared.Line.{Line}
use Rattle.release.specs.Manners.{manner_number}

-- what every checksum begins with
abbrev pub basis : ℕ
basis = 0xcbf2_9ce4_8422_2325

-- one more word
unfoldable pub mixed : ℕ → ℕ → ℕ
mixed h w = bit_xor h w * 0x100_0000_01b3 % 2 ^ 64

-- the low and the high end of each range
abbrev pub ends : List Range → List ℕ
ends [] = []
ends (a ∷ rest) = a.low ∷ a.high ∷ ends rest

-- the words of a line; a negative reading by its bits
abbrev pub words : Line → List ℕ
words l = l.position ∷ of_z w32 l.reading ∷ manner_number l.manner ∷ l.number ∷ ends l.ranges
