-- Losses of joined boxes, place by place.
use Rattle.std.proofs.Common.{◌≡◌, ℕ, zero, suc, ◌+◌, ◌<◌, true, List, map, sum, sym, refl, ap, ◌∙◌, arith}
use Rattle.std.specs.List.{range_with_len}
use Rattle.domain.specs.declared.range.Range.{Range}
use Rattle.domain.specs.Ranges.{point}
use Rattle.domain.specs.Meaning.{Meaning, join_of, loss_of, known}
use Rattle.domain.specs.Boxes.{range_at, value_at, known_count, point_box, join_boxes, box_loss, covers}
use Rattle.domain.specs.BoxLaws.{Allowed, Admitted}
use Rattle.choice.specs.Losses.{joined_losses}
use Rattle.domain.proofs.Places.{known_from, join_boxes_at, point_box_at, sum_more, loss_mono, widened_least}
use Rattle.std.proofs.lemmas.Bool.{cond-true}

sum_same : (f g : ℕ → ℕ) (n : ℕ) → ((i : ℕ) → i < n → f i ≡ g i) → sum (map f (range_with_len 0 n)) ≡ sum (map g (range_with_len 0 n))
sum_same f g zero h = refl
sum_same f g (suc n) h =
    let e : suc n ≡ n + 1 = omega arith in
    ap (λ k. sum (map f (range_with_len 0 k))) e ∙ sum_more f n ∙ (let rest = sum_same f g n (λ i l. h i (omega arith)) in let here = h n (omega arith) in omega arith) ∙ sym (sum_more g n) ∙ ap (λ k. sum (map g (range_with_len 0 k))) (sym e)

-- of two boxes joined, and of a box widened to cover the values
pub losses_joined : (m : Meaning) (a b : List Range) → joined_losses m a (range_at b) ≡ box_loss m (join_boxes m a b)
unfolding box_loss
losses_joined m a b = sum_same _ (λ i. loss_of m i (range_at (join_boxes m a b) i)) (known_count m) (λ i l. ap (loss_of m i) (sym (join_boxes_at m a b i (omega arith))))

pub losses_widened : (m : Meaning) (b : List Range) (vs : List ℕ) → joined_losses m b (λ i. point (value_at vs i)) ≡ box_loss m (join_boxes m b (point_box m vs))
losses_widened m b vs =
    sum_same _ (λ i. loss_of m i (join_of m i (range_at b i) (range_at (point_box m vs) i))) (known_count m) (λ i l.
    ap (λ r. loss_of m i (join_of m i (range_at b i) r)) (sym (point_box_at m vs i (omega arith) ∙ ap point (cond-true (known m i) (value_at vs i) 0 (known_from m i l)))))
    ∙ losses_joined m b (point_box m vs)

-- a box that covers the values loses no more when it is widened to cover them
pub covered_loss : (m : Meaning) (b : List Range) (vs : List ℕ) → Allowed m b → Admitted m vs → covers m b vs ≡ true → box_loss m (join_boxes m b (point_box m vs)) ≡ box_loss m b
covered_loss m b vs p q e =
    let w = widened_least m b vs p q in
    let j = join_boxes m b (point_box m vs) in
    omega (arith, loss_mono m b j p w.is_allowed w.containing, loss_mono m j b w.is_allowed p (w.least b p (λ i k. (omega arith, omega arith)) e))
