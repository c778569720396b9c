-- The laws of join, from leastness.
use Rattle.std.specs.Prelude.{◌≡◌}
use Rattle.std.proofs.Common.{arith}
use Rattle.domain.specs.declared.range.Range.{Range}
use Rattle.domain.specs.Ranges.{Inside}
use Rattle.domain.specs.Meaning.{Attribute, Least}
use Rattle.domain.specs.Joins.{Semilattice}

-- two ranges of which each lies inside the other are one
pub inside_both : (a b : Range) → Inside a b → Inside b a → a ≡ b
inside_both a b p q =
    let low : a.low ≡ b.low = omega arith in
    let high : a.high ≡ b.high = omega arith in
    λ i. record { low = low i; high = high i }

pub inside_trans : (a b c : Range) → Inside a b → Inside b c → Inside a c
inside_trans a b c p q = omega arith

-- there is one least range
pub least_once : (t : Attribute) (a b j k : Range) → Least t.allowed a b j → Least t.allowed a b k → j ≡ k
least_once t a b j k p q = inside_both j k (p.least k q.is_allowed q.first q.second) (q.least j p.is_allowed p.first p.second)

swap : (t : Attribute) (a b j : Range) → Least t.allowed b a j → Least t.allowed a b j
swap t a b j p = record { is_allowed = p.is_allowed; first = p.second; second = p.first; least = λ k ok x y. p.least k ok y x }

-- both ways of joining three give the least range that contains all three
pub semilattice : (t : Attribute) → Semilattice t
semilattice t = record {
  idempotent = λ a p.
      let j = t.facts.joins a a p p in
      inside_both (t.join a a) a (j.least a p (omega arith) (omega arith)) j.first;
  commutative = λ a b p q. least_once t a b (t.join a b) (t.join b a) (t.facts.joins a b p q) (swap t a b (t.join b a) (t.facts.joins b a q p));
  associative = λ a b c p q r.
      let ab = t.facts.joins a b p q in
      let bc = t.facts.joins b c q r in
      let left = t.facts.joins (t.join a b) c ab.is_allowed r in
      let right = t.facts.joins a (t.join b c) p bc.is_allowed in
      let x = t.join (t.join a b) c in
      let y = t.join a (t.join b c) in
      inside_both x y
      (left.least y right.is_allowed
      (ab.least y right.is_allowed right.first (inside_trans b (t.join b c) y bc.first right.second))
      (inside_trans c (t.join b c) y bc.second right.second))
      (right.least x left.is_allowed
      (inside_trans a (t.join a b) x ab.first left.first)
      (bc.least x left.is_allowed (inside_trans b (t.join a b) x ab.second left.first) left.second));
}
