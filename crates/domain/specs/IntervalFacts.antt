-- Proofs alone: that the values and ranges within a range are an attribute. A reader of the claims can pass it over.
use Rattle.std.specs.Prelude.{◌≡◌, ℕ, zero, suc, ◌-◌, ◌*◌, ◌/◌, ◌≤◌, true}
use Rattle.std.proofs.Common.{sym, ◌∙◌, le-div_iff_mul-le, div-mul-le_self, le_trans, arith}
use Rattle.std.proofs.Math.Nat.{div-le_of_le-mul, div-zero, zero-div}
use Rattle.std.proofs.lemmas.Bool.{leb-true, le-leb, and_parts, and_from}
use Rattle.domain.specs.declared.range.Range.{Range}
use Rattle.domain.specs.Ranges.{point, within, Inside, fits, hull}
use Rattle.domain.specs.Meaning.{Facts, Least, full_loss, share}

-- what `fits` tells
pub record Fits (w a : Range) : Type 0 where
  pub ordered : a.low ≤ a.high
  pub inside : Inside a w

pub fits_tells : (w a : Range) → fits w a ≡ true → Fits w a
fits_tells w a h =
    let p = and_parts _ _ h in
    let q = and_parts _ _ p.1 in
    record { ordered = leb-true _ _ p.0; inside = (leb-true _ _ q.0, leb-true _ _ q.1) }

pub fits_from : (w a : Range) → Fits w a → fits w a ≡ true
fits_from w a h = and_from _ _ (le-leb _ _ h.ordered) (and_from _ _ (le-leb _ _ h.inside.0) (le-leb _ _ h.inside.1))

div_mono : (a b k : ℕ) → a ≤ b → a / k ≤ b / k
div_mono a b zero h = let e : a / zero ≡ b / zero = div-zero a ∙ sym (div-zero b) in omega arith
div_mono a b (suc k) h = (le-div_iff_mul-le (omega arith)).1 (le_trans (div-mul-le_self a (suc k)) h)

pub share_point : (w : Range) (v : ℕ) → share w (point v) ≡ 0
share_point w v = let z : full_loss * (v - v) ≡ 0 = omega arith in rw z (zero-div (w.high - w.low))

pub share_mono : (w a b : Range) → Inside a b → share w a ≤ share w b
share_mono w a b h = div_mono (full_loss * (a.high - a.low)) (full_loss * (b.high - b.low)) (w.high - w.low) (omega arith)

pub share_le : (w a : Range) → Inside a w → share w a ≤ full_loss
share_le w a h = div-le_of_le-mul (w.high - w.low) (omega arith)

joins : (w a b : Range) → fits w a ≡ true → fits w b ≡ true → Least (fits w) a b (hull a b)
joins w a b p q =
    let x = fits_tells w a p in
    let y = fits_tells w b q in
    record {
      is_allowed = fits_from w (hull a b) (record { ordered = omega arith; inside = omega arith });
      first = omega arith;
      second = omega arith;
      least = λ k _ s t. omega arith;
    }

points : (w : Range) (v : ℕ) → within w v ≡ true → fits w (point v) ≡ true
points w v p =
    let q = and_parts _ _ p in
    let low = leb-true _ _ q.0 in
    let high = leb-true _ _ q.1 in
    fits_from w (point v) (record { ordered = omega arith; inside = (low, high) })

pub interval_facts : (w : Range) → Facts (within w) (fits w) hull (share w)
interval_facts w = record {
  ordered = λ a p. (fits_tells w a p).ordered;
  points = points w;
  lossless = λ v _. share_point w v;
  joins = joins w;
  monotone = λ a b _ _ h. share_mono w a b h;
  bounded = λ a p. share_le w a (fits_tells w a p).inside;
}
