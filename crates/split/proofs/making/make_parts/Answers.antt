use Rattle.std.proofs.Common.{◌≡◌, ◌+◌, ◌<◌, ◌≤◌, map, length, Some, sym, subst, arith}
use Rattle.rules.specs.Clusters.{owner}
use Rattle.rules.specs.Split.{next_part}
use Rattle.split.specs.Near.{remaining}
use Rattle.split.proofs.Rounds.{making_starts, making_goes_on, making_ends, remaining_length}
use Rattle.split.proofs.making.make_parts.Goals as goal

pub loop-near-init : goal.loop-near-init
loop-near-init g c =
    let fs = c.args.faces.now in
    (omega (arith, remaining_length fs), λ es e. making_starts (g.D.Domain.meaning c.args.d.now) (length c.args.near.now + 1) es fs e)

pub loop-near-preserved : goal.loop-near-preserved
loop-near-preserved g c =
    let m = g.D.Domain.meaning c.args.d.now in
    let k = length c.args.near.now + 1 in
    let fs = c.loop-near.faces in
    let many : k ≤ length (remaining fs) = omega arith in
    let less : length (remaining c.gather.new.faces) < length (remaining fs) = c.gather.ensures.fewer (omega arith) in (
      omega arith,
      λ es e.
          making_goes_on m k es fs c.gather.new.faces c.loop-near.made (omega arith) many less
          (λ ps p f l h. c.gather.ensures.next es ps p f l (subst (λ n. next_part m (n + 1) es (map owner (remaining fs)) ≡ Some p) (sym c.loop-near.auto.near) h))
          (c.loop-near.invariant.1 es e),
    )

pub returns : goal.returns
returns g c =
    let m = g.D.Domain.meaning c.args.d.now in
    let k = length c.args.near.now + 1 in
    let fs = c.loop-near.faces in
    let few : length (remaining fs) < k = omega arith in
    record { few = omega arith; cuts = λ es e. making_ends m k es fs c.loop-near.made few (c.loop-near.invariant.1 es e) }
