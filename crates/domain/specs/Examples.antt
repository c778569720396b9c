-- Examples by hand, of the definitions. Assumes nothing.
use Rattle.std.specs.Prelude.{◌≡◌, ◌+◌, true, false, [], ◌∷◌}
use Rattle.domain.specs.Boxes.{point_box, join_boxes, box_loss, covers}
use Rattle.domain.specs.Interval.{interval_meaning}
use Rattle.domain.specs.Meaning.{Meaning, width_of, admits_of, join_of, loss_of}
use Rattle.domain.specs.Pair.{pair_meaning}
use Rattle.domain.specs.Ranges.{span, point}

-- four values beside ten
abbrev pub two : Meaning
two = pair_meaning (interval_meaning 0 3) (interval_meaning 0 9)

pub record Examples : Type 0 where
  -- a third of the way, all of it, one value, and a range that is not allowed
  pub third : loss_of (interval_meaning 0 3) 0 (span 0 1) ≡ 3333
  pub all : loss_of (interval_meaning 0 3) 0 (span 0 3) ≡ 10000
  pub one_value : loss_of (interval_meaning 5 5) 0 (point 5) ≡ 0
  pub outside : loss_of (interval_meaning 0 3) 0 (span 2 4) ≡ 0
  -- a join, and one that is refused
  pub joined : join_of (interval_meaning 0 9) 0 (span 1 2) (span 5 6) ≡ span 1 6
  pub not_joined : join_of (interval_meaning 0 3) 0 (span 1 2) (span 3 4) ≡ span 1 2
  -- the right domain's attributes follow the left one's, and a width of seven stands for any above six
  pub second : admits_of two 1 9 ≡ true
  pub no_third : admits_of two 2 0 ≡ false
  pub eight_wide : width_of (pair_meaning (pair_meaning two two) (pair_meaning two two)) ≡ 7
  pub seventh : admits_of (pair_meaning (pair_meaning two two) (pair_meaning two two)) 6 0 ≡ false

-- boxes of the pair
pub record BoxExamples : Type 0 where
  -- the box of 1 and 5 takes in 0 and 7
  pub box : join_boxes two (point_box two (1 ∷ 5 ∷ 9 ∷ 9 ∷ 9 ∷ 9 ∷ [])) (point_box two (0 ∷ 7 ∷ 9 ∷ 9 ∷ 9 ∷ 9 ∷ [])) ≡ span 0 1 ∷ span 5 7 ∷ point 0 ∷ point 0 ∷ point 0 ∷ point 0 ∷ []
  pub box_third : box_loss two (span 0 1 ∷ span 5 7 ∷ point 0 ∷ point 0 ∷ point 0 ∷ point 0 ∷ []) ≡ 3333 + 2222
  pub in_box : covers two (span 0 1 ∷ span 5 7 ∷ []) (1 ∷ 6 ∷ 9 ∷ 9 ∷ 9 ∷ 9 ∷ []) ≡ true
  pub not_in_box : covers two (span 0 1 ∷ span 5 7 ∷ []) (1 ∷ 8 ∷ 0 ∷ 0 ∷ 0 ∷ 0 ∷ []) ≡ false
