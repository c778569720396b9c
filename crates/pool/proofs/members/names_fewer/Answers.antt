use Rattle.std.proofs.Common.{ltb, true, rules, tests, ◌∙◌, ap}
use Rattle.std.proofs.lemmas.Iterator.{YieldsList-from_slice, YieldsList-from_take}
use Rattle.std.proofs.lemmas.Iterator.Consumers.{YieldsList-at, YieldsList-from_filter, YieldsList-from_enumerate, count_from_yields_List}
use Rattle.rules.specs.Clusters.{records}
use Rattle.pool.proofs.Scans.{is_earliest, records_push, count_names, few_front}
use Rattle.pool.proofs.members.names_fewer.Goals as goal

pub returns : goal.returns
returns c =
    let hs = c.args.held.now in
    let k = c.args.k in
    ap (λ n. ltb n k) (count_from_yields_List c.take.result _ c.count-owners.ensures.ran (YieldsList-from_take k (YieldsList-at c.take.ensures.source (YieldsList-from_filter _ (is_earliest records (λ _. true) records_push hs) (YieldsList-from_enumerate (YieldsList-from_slice hs cc) cc) c.filter.ensures.closure (λ x b q k. search (rules, tests)))) c.take.ensures.count))
    ∙ few_front k _ ∙ ap (λ n. ltb n k) (count_names hs)
