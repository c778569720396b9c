use Rattle.std.proofs.Common.{◌≡◌, subst, add-one, arith, rules}
use Rattle.audit.specs.Runs.{AreFed}
use Rattle.audit.proofs.audit.feed_all.Goals as goal

pub loop-p-init : goal.loop-p-init
unfolding AreFed
loop-p-init g c = search rules

pub loop-p-preserved : goal.loop-p-preserved
unfolding AreFed
loop-p-preserved g c =
    rw add-one (c.loop-p.source.x, c.loop-p.audit, c.loop-p.invariant, record { fed = c.draw.result; made = c.draw.ensures.value; source = c.draw.ensures.source; audit = search rules })

pub returns : goal.returns
returns g c =
    let all : c.loop-p.p ≡ 6000 = omega arith in
    let fed = subst (λ n. AreFed c.args.workload n c.loop-p.source.x c.args.audit.now c.loop-p.audit) all c.loop-p.invariant in
    (c.loop-p.source.x, c.loop-p.audit, fed, search rules)
