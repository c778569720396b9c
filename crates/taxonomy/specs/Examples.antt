-- Examples by hand, of the definitions. Assumes nothing.
use Rattle.std.specs.Prelude.{◌≡◌, ℕ, List, [], ◌∷◌, Some, None, Option, refl}
use Rattle.std.specs.Option.{option_map}
use Rattle.domain.specs.declared.range.Range.{Range}
use Rattle.domain.specs.Meaning.{Meaning, join_of, loss_of}
use Rattle.domain.specs.Ranges.{span, point}
use Rattle.taxonomy.specs.Refusals.{fault_of, group_number}
use Rattle.taxonomy.specs.Taxonomy.{taxonomy_meaning}

abbrev pub two_groups : List Range
two_groups = span 0 3 ∷ span 4 7 ∷ []

-- eight leaves in two halves
abbrev pub eight : Meaning
eight = taxonomy_meaning 8 two_groups refl

-- the number under which a group is turned away
abbrev pub refusal : ℕ → List Range → Range → Option ℕ
refusal m gs g = option_map group_number (fault_of m gs g)

pub record Examples : Type 0 where
  -- neighbours in one half, and neighbours in both
  pub near : join_of eight 0 (point 1) (point 2) ≡ span 0 3
  pub near_loss : loss_of eight 0 (span 0 3) ≡ 4285
  pub far : join_of eight 0 (point 3) (point 4) ≡ span 0 7
  pub far_loss : loss_of eight 0 (span 0 7) ≡ 10000
  pub alone : join_of eight 0 (point 5) (point 5) ≡ point 5
  pub half : join_of eight 0 (span 0 3) (point 2) ≡ span 0 3
  pub not_allowed : join_of eight 0 (span 1 2) (point 7) ≡ span 1 2
  -- across the halves, a half again, the whole tree, a leaf, past the last leaf, within a half
  pub across : refusal 8 two_groups (span 2 5) ≡ Some 6
  pub again : refusal 8 two_groups (span 0 3) ≡ Some 5
  pub whole_again : refusal 8 two_groups (span 0 7) ≡ Some 5
  pub leaf : refusal 8 two_groups (point 2) ≡ Some 5
  pub past : refusal 8 two_groups (span 7 8) ≡ Some 5
  pub within : refusal 8 two_groups (span 0 1) ≡ None
