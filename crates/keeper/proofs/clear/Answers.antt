use Rattle.std.proofs.Common.{◌≡◌, length, replicate, arith}
use Rattle.std.proofs.lemmas.List.{take_all}
use Rattle.keeper.proofs.Keepers.{keeps_nothing}
use Rattle.keeper.proofs.clear.Goals as goal

pub returns : goal.returns
returns g c =
    let k = g.T.Ranked in
    let n = length c.args.places.now in
    let places = c.loop-place.place-items in
    let all = take_all c.loop-place.place-index places (omega arith) in
    let count : c.loop-place.place-index ≡ n = omega arith in
    let fills : places ≡ replicate n k.empty = cc in
    record { fills = fills; keeps = keeps_nothing k.rank k.empty n places fills }
