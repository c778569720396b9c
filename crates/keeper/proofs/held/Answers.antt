use Rattle.std.proofs.Common.{◌≡◌, Bool, ◌∙◌, arith, rules, tests}
use Rattle.std.proofs.lemmas.Iterator.{YieldsList-from_slice}
use Rattle.std.proofs.lemmas.Iterator.Consumers.{count_from_yields_List}
use Rattle.std.proofs.lemmas.Iterator.Search.{YieldsList-from_take_while}
use Rattle.std.proofs.lemmas.List.Folds.{length-prefix_len}
use Rattle.std.proofs.lemmas.List.Sums.{prefix_len-le-length}
use Rattle.keeper.specs.Ranks.{lower}
use Rattle.keeper.specs.Keeping.{count_in}
use Rattle.keeper.proofs.Leasts.{computes}
use Rattle.keeper.proofs.Keepers.{held_is, reads_at}
use Rattle.keeper.proofs.held.Goals as goal

pub returns : goal.returns
returns g c =
    let k = g.T.Ranked in
    let places = c.args.places.now in
    let is_item : g.row.T.Denot → Bool = λ x. lower (k.rank x) (k.rank k.empty) in
    let counts : c.count.result ≡ count_in k.rank k.empty places =
    count_from_yields_List c.take_while.result _ c.count.ensures.ran (YieldsList-from_take_while _ is_item (YieldsList-from_slice places cc) c.take_while.ensures.closure c.take_while.ensures.done (λ x b q h. search (rules, tests)))
    ∙ length-prefix_len is_item places in
    record {
      counts = counts;
      within = omega (arith, prefix_len-le-length is_item places);
      keeps = λ given h. counts ∙ held_is k.rank k.empty places given h;
      reads = λ given h. reads_at k.rank k.empty places given c.count.result counts h;
      computes = λ by n xs. computes by n xs;
    }
