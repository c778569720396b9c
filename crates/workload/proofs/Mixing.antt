-- The ends of ranges, mixed in range by range.
use Rattle.std.proofs.Common.{◌≡◌, ℕ, List, [], ◌∷◌, fold, refl}
use Rattle.domain.specs.declared.range.Range.{Range}
use Rattle.workload.specs.Checksums.{mixed, ends}

abbrev pub both : ℕ → Range → ℕ
both h a = mixed (mixed h a.low) a.high

pub ends_mixed : (rs : List Range) (h : ℕ) → fold both h rs ≡ fold mixed h (ends rs)
ends_mixed [] h = refl
ends_mixed (a ∷ rs) h = ends_mixed rs (both h a)
