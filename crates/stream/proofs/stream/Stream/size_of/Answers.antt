use Rattle.std.proofs.Common.{◌≡◌, get_or, MatchOption, vec_items, ◌∙◌, rules}
use Rattle.stream.proofs.Sizes.{no_cluster, sized}
use Rattle.stream.proofs.stream.Stream.size_of.Goals as goal

pub returns : goal.returns
returns g c = λ s.
    let m = g.D.Domain.meaning c.args.self.now.domain in
    let hs = vec_items c.args.self.now.pool.held in
    let cs = c.as_slice-clusters.result.now in
    let same = c.as_slice-clusters.ensures.value ∙ s.table in
    let read : MatchOption c.find.result (c.map_or.result ≡ 0) (λ i. c.map_or.result ≡ (get_or cs i no_cluster).size) = search rules in
    sized m hs cs c.args.label c.map_or.result c.find.result same c.find.ensures.first (λ h. c.find.ensures.held m hs h same) read
