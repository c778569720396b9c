use Rattle.std.proofs.Common.{eqb, rules, tests, ◌∙◌}
use Rattle.std.proofs.lemmas.Iterator.{YieldsList-from_slice}
use Rattle.std.proofs.lemmas.Iterator.Consumers.{YieldsList-from_filter, YieldsList-from_enumerate, count_from_yields_List}
use Rattle.rules.specs.Clusters.{members}
use Rattle.pool.proofs.Scans.{is_earliest, members_push, count_members}
use Rattle.pool.proofs.members.count_owners.Goals as goal

pub returns-clause-value : goal.returns-clause-value
returns-clause-value c =
    let hs = c.args.held.now in
    let l = c.args.label in
    count_from_yields_List c.filter.result _ c.count.ensures.ran (YieldsList-from_filter _ (is_earliest (members l) (λ h. eqb h.label l) (members_push l) hs) (YieldsList-from_enumerate (YieldsList-from_slice hs cc) cc) c.filter.ensures.closure (λ x b q k. search (rules, tests)))
    ∙ count_members l hs
