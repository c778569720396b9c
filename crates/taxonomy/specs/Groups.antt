-- Groups of the leaves 0 to m - 1, and when they are nested. Assumes nothing.
use Rattle.std.specs.Prelude.{ℕ, ◌-◌, Bool, true, false, ◌&&◌, ◌||◌, List, [], ◌∷◌, ◌==◌, nat_le, nat_lt}
use Rattle.domain.specs.declared.range.Range.{Range}
use Rattle.domain.specs.Boxes.{all_pass}
use Rattle.domain.specs.Ranges.{span, is_inside}

abbrev pub most_leaves : ℕ
most_leaves = 256

abbrev pub most_groups : ℕ
most_groups = 32

-- the whole tree
abbrev pub whole : ℕ → Range
whole m = span 0 (m - 1)

-- without a leaf in common
abbrev pub apart : Range → Range → Bool
apart a b = nat_lt a.high b.low || nat_lt b.high a.low

-- one inside the other, or apart
abbrev pub nested : Range → Range → Bool
nested a b = is_inside a b || (is_inside b a || apart a b)

-- more than one leaf, and none past the last
abbrev pub in_tree : ℕ → Range → Bool
in_tree m g = nat_lt g.low g.high && nat_lt g.high m

-- all lie in the tree, and every two are nested
abbrev pub well_nested : ℕ → List Range → Bool
well_nested m [] = true
well_nested m (g ∷ gs) = in_tree m g && (all_pass (nested g) gs && well_nested m gs)

abbrev pub same : Range → Range → Bool
same a b = a.low == b.low && a.high == b.high

abbrev pub among : Range → List Range → Bool
among a [] = false
among a (g ∷ gs) = same a g || among a gs

-- the allowed ranges: the leaves, the whole tree and the groups
abbrev pub allowed : ℕ → List Range → Range → Bool
allowed m gs a = nat_le a.low a.high && (nat_lt a.high m && (a.low == a.high || (same a (whole m) || among a gs)))
