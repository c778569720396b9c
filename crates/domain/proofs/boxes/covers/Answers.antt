use Rattle.std.proofs.Common.{arith, rules, tests}
use Rattle.std.proofs.lemmas.Iterator.{YieldsList-from_range}
use Rattle.std.proofs.lemmas.Iterator.Search.{all_from_yields_List}
use Rattle.domain.specs.Boxes.{range_at, value_at, known_count, covers}
use Rattle.domain.specs.Ranges.{within}
use Rattle.domain.proofs.boxes.covers.Goals as goal

pub returns : goal.returns
unfolding covers
returns g c =
    let n = known_count (g.D.Domain.meaning c.args.d.now) in
    all_from_yields_List (λ i. within (range_at c.args.bounds.now i) (value_at c.args.values.now i)) _ _ c.all.result c.all.ensures.ran (YieldsList-from_range 0 n n (search rules) (omega arith)) (λ x b q k. search (rules, tests))
