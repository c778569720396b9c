-- The laws of join, for every attribute. They follow from leastness. Assumes nothing.
use Rattle.std.specs.Prelude.{◌≡◌, true}
use Rattle.domain.specs.declared.range.Range.{Range}
use Rattle.domain.specs.Meaning.{Attribute}

pub record Semilattice (t : Attribute) : Type 0 where
  pub idempotent : (a : Range) → t.allowed a ≡ true → t.join a a ≡ a
  pub commutative : (a b : Range) → t.allowed a ≡ true → t.allowed b ≡ true → t.join a b ≡ t.join b a
  pub associative : (a b c : Range) → t.allowed a ≡ true → t.allowed b ≡ true → t.allowed c ≡ true → t.join (t.join a b) c ≡ t.join a (t.join b c)
