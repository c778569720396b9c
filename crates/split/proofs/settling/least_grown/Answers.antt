use Rattle.std.proofs.Common.{◌≡◌, MatchOption, rules, tests}
use Rattle.std.proofs.lemmas.Iterator.{YieldsList-from_slice}
use Rattle.std.proofs.lemmas.Iterator.Consumers.{YieldsList-from_enumerate}
use Rattle.split.specs.Settling.{box_growth}
use Rattle.split.proofs.Settled.{first_least}
use Rattle.split.proofs.settling.least_grown.Goals as goal

pub returns : goal.returns
returns g c =
    let place : MatchOption c.min_by_key.result (c.map_or.result ≡ 0) (λ p. c.map_or.result ≡ p.0) = search rules in
    first_least (box_growth (g.D.Domain.meaning c.args.d.now) c.args.stand_in.now) c.args.parts.now _ _ c.min_by_key.result c.map_or.result c.requires c.min_by_key.ensures.ran
    (YieldsList-from_enumerate (YieldsList-from_slice c.args.parts.now cc) cc) (λ x k q h. search (rules, tests)) place
