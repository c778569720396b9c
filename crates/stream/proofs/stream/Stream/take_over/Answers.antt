use Rattle.std.proofs.Common.{◌<◌, length, get_or, vec_items, vec_len, ap, ◌∙◌, arith}
use Rattle.std.proofs.lemmas.Bool.{and_parts, cond-true, ltb-true}
use Rattle.pool.specs.Changes.{are_two, is_place, taken_over}
use Rattle.stream.proofs.Merging.{rows_fewer}
use Rattle.stream.proofs.Sizes.{no_cluster}
use Rattle.stream.proofs.stream.Stream.take_over.Goals as goal

pub returns-clause-closes : goal.returns-clause-closes
returns-clause-closes g c = λ _.
    let s = c.args.self.now in
    let m = g.D.Domain.meaning s.domain in
    let hs = vec_items s.pool.held in
    let xs = vec_items s.pool.clusters in
    let i = c.in-Some.merger.taker in
    let j = c.in-Some.merger.other in
    let two = c.in-Some.ensures.apart.0 in
    let places = and_parts (is_place s.pool i) _ two in
    let within : j < vec_len s.pool.clusters = ltb-true j (vec_len s.pool.clusters) (and_parts (is_place s.pool j) _ places.1).0 in
    let gone = c.merge.ensures.clusters no_cluster ∙ cond-true (are_two s.pool i j) (taken_over m hs (get_or xs i no_cluster) (get_or xs j no_cluster) xs) xs two in
    omega (arith, ap length gone, rows_fewer m hs xs (get_or xs i no_cluster) no_cluster j (omega (arith, within, s.pool.clusters.ok.0)), s.pool.clusters.ok.0, c.merge.new.self.clusters.ok.0)
