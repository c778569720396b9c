-- When a taxonomy or a group is turned away, and under which number. Assumes nothing.
use Rattle.std.specs.Prelude.{◌≡◌, ℕ, Bool, true, false, cond, not, ◌&&◌, ◌||◌, List, length, Some, None, Option, nat_le}
use Rattle.domain.specs.declared.range.Range.{Range}
use Rattle.domain.specs.Boxes.{all_pass}
use Rattle.taxonomy.specs.declared.calls.TaxonomyFault.{TaxonomyFault}
use Rattle.taxonomy.specs.declared.calls.TaxonomyFault.TheVariants.{LeafCount, Memory}
use Rattle.taxonomy.specs.declared.calls.GroupFault.{GroupFault}
use Rattle.taxonomy.specs.declared.calls.GroupFault.TheVariants.{NoNewGroup, Overlaps, Full}
use Rattle.taxonomy.specs.Groups.{most_leaves, most_groups, allowed, nested}

-- a tree has 1 to 256 leaves
abbrev pub leaf_count : ℕ → Bool
leaf_count m = nat_le 1 m && nat_le m most_leaves

-- why a taxonomy of m leaves is not made
abbrev pub Why : TaxonomyFault → ℕ → Type 0
Why LeafCount m = leaf_count m ≡ false
Why Memory m = leaf_count m ≡ true

-- want of memory has no number
abbrev pub taxonomy_number : TaxonomyFault → Option ℕ
taxonomy_number LeafCount = Some 4
taxonomy_number Memory = None

-- g overlaps one of the groups in part
abbrev pub overlaps : List Range → Range → Bool
overlaps gs g = not (all_pass (λ h. nested h g) gs)

-- why the group g is turned away: the first reason that fits
abbrev pub fault_of : ℕ → List Range → Range → Option GroupFault
fault_of m gs g =
    cond (nat_le g.high g.low || (nat_le m g.high || allowed m gs g)) (Some NoNewGroup)
    (cond (overlaps gs g) (Some Overlaps)
    (cond (nat_le most_groups (length gs)) (Some Full) None))

abbrev pub group_number : GroupFault → ℕ
group_number NoNewGroup = 5
group_number Overlaps = 6
group_number Full = 7
