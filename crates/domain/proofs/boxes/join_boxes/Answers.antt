use Rattle.std.proofs.Common.{◌≡◌, sym, refl, subst, rules}
use Rattle.domain.specs.Ranges.{point}
use Rattle.domain.specs.Meaning.{places, join_of}
use Rattle.domain.specs.Boxes.{range_at, point_box, join_boxes, box_loss, covers}
use Rattle.domain.specs.Examples.{BoxExamples}
use Rattle.domain.specs.BoxLaws.{LeastBox, CoversBoth}
use Rattle.domain.proofs.Made.{made_is}
use Rattle.domain.proofs.Places.{join_boxes_least, join_boxes_covers, box_semilattice}
use Rattle.domain.proofs.boxes.join_boxes.Goals as goal

box_examples : BoxExamples
unfolding point_box join_boxes box_loss covers
box_examples = record { box = refl; box_third = refl; in_box = refl; not_in_box = refl }

pub returns : goal.returns
unfolding join_boxes
returns g c =
    let m = g.D.Domain.meaning c.args.d.now in
    let a = c.args.a.now in
    let b = c.args.b.now in
    let e : c.from_fn.result ≡ join_boxes m a b =
    made_is _ (λ i. join_of m i (range_at a i) (range_at b i)) _ c.from_fn.result (point 0) places (λ k y q l h. search rules) c.from_fn.ensures.items in
    record {
      value = e;
      least = λ p q. subst (LeastBox m a b) (sym e) (join_boxes_least m a b p q);
      covering = λ p q. subst (CoversBoth m a b) (sym e) (join_boxes_covers m a b p q);
      laws = box_semilattice m;
      examples = box_examples;
    }
