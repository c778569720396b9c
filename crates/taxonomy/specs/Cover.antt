-- How a taxonomy finds the join of two ranges. That it is the least is a fact of the attribute, so this need not be believed.
use Rattle.std.specs.Prelude.{ℕ, cond, ◌&&◌, List, fold}
use Rattle.domain.specs.declared.range.Range.{Range}
use Rattle.domain.specs.Ranges.{is_inside}
use Rattle.taxonomy.specs.Groups.{whole}

-- g if it contains both a and b and is narrower than best, else best
abbrev pub narrower : Range → Range → Range → Range → Range
narrower a b best g = cond (is_inside a g && (is_inside b g && is_inside g best)) g best

-- a if it contains b, else the narrowest of the whole tree and the groups that contains both
abbrev pub cover : ℕ → List Range → Range → Range → Range
cover m gs a b = cond (is_inside b a) a (fold (narrower a b) (whole m) gs)
