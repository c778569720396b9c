use Rattle.std.proofs.Common.{◌≡◌, ℕ, List, MatchOption, ◌⊎◌, ◌<◌, ◌≤◌, rules, tests, eqb, not, length, map, filter, sym, ap, ◌∙◌, arith, subst}
use Rattle.std.specs.Option.{option_map}
use Rattle.std.specs.Ordering.{nat_cmp}
use Rattle.std.specs.List.{enumerate_from}
use Rattle.std.proofs.lemmas.Iterator.{YieldsList-from_slice, YieldsList-from_map}
use Rattle.std.proofs.lemmas.Iterator.Consumers.{YieldsList-at, YieldsList-from_enumerate, YieldsList-from_filter}
use Rattle.rules.specs.Choosing.{least}
use Rattle.pool.specs.declared.Cluster.{Cluster}
use Rattle.pool.specs.Tables.{label_at}
use Rattle.choice.specs.declared.joining.Rise.{Rise}
use Rattle.choice.specs.Offers.{rise_of}
use Rattle.choice.proofs.Lowest.{min_from_chain, least_reduced}
use Rattle.choice.proofs.Rises.{rises, rises_by_place, other_is, easiest_is}
use Rattle.choice.proofs.joining.easiest.Goals as goal

pub returns : goal.returns
returns g c =
    let m = g.D.Domain.meaning c.args.d.now in
    let cs = c.args.clusters.now in
    let at = c.args.at in
    let own = c.in_ok-own.own.now in
    let found = c.in_ok-own.ensures.lookup.3 in
    let best = c.min_by_key.result in
    let place : c.map-2.result ≡ option_map (λ (x : Rise). x.place) best = search rules in
    let all : List (ℕ × Cluster) = filter (λ (p : ℕ × Cluster). not (eqb p.0 at)) (enumerate_from 0 cs) in
    let is : best ≡ least (λ x. x.raise) (rises m cs at (length cs)) =
    min_from_chain (λ (x : Rise). x.raise) nat_cmp _ (λ x k q h. search (rules, tests)) _ c.min_by_key.ensures.ran
    (YieldsList-from_map _ (λ (p : ℕ × Cluster). rise_of m own p.0 p.1) (YieldsList-at c.map.ensures.source (YieldsList-from_filter _ (λ (p : ℕ × Cluster). not (eqb p.0 at)) (YieldsList-at c.filter.ensures.source (YieldsList-from_enumerate (YieldsList-from_slice cs cc) cc)) c.filter.ensures.closure (λ x r q k. search (rules, tests)))) c.map.ensures.closure (λ x r q k. search (rules, tests)))
    ∙ least_reduced (λ (x : Rise). x.raise) _
    ∙ ap (least (λ x. x.raise)) (ap (λ o. map (λ (p : ℕ × Cluster). rise_of m o p.0 p.1) all) (found.1 _) ∙ rises_by_place m cs at) in
    record {
      other = subst (λ o. MatchOption o ((length cs ≤ 1) ⊎ (length cs ≤ at)) (λ j. (j < length cs) × (j ≡ at → ⊥))) (sym place) (other_is m cs at best is);
      outside = λ l. absurd (omega (arith, found.0, l));
      rule = λ hs t a w. easiest_is m hs cs t a at w best is ∙ ap (option_map (label_at cs)) (sym place);
    }
