use Rattle.std.proofs.Common.{◌≡◌, cond, sym, subst, rules}
use Rattle.domain.specs.Ranges.{point}
use Rattle.domain.specs.Meaning.{places, known}
use Rattle.domain.specs.Boxes.{value_at, point_box}
use Rattle.domain.specs.BoxLaws.{LeastCover}
use Rattle.domain.proofs.Made.{made_is}
use Rattle.domain.proofs.Places.{point_box_least}
use Rattle.domain.proofs.boxes.point_box.Goals as goal

pub returns : goal.returns
unfolding point_box
returns g c =
    let m = g.D.Domain.meaning c.args.d.now in
    let vs = c.args.values.now in
    let e : c.from_fn.result ≡ point_box m vs =
    made_is _ (λ i. point (cond (known m i) (value_at vs i) 0)) _ c.from_fn.result (point 0) places (λ k y q l h. search rules) c.from_fn.ensures.items in
    record { value = e; least = λ h. subst (LeastCover m vs) (sym e) (point_box_least m vs h) }
