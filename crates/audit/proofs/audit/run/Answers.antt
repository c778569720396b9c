use Rattle.std.proofs.Common.{◌≡◌, [], None, ap, ◌∙◌, subst}
use Rattle.domain.specs.Meaning.{width_of}
use Rattle.audit.specs.declared.audit.Audit.{Audit}
use Rattle.audit.specs.declared.audit.Outcome.{Outcome}
use Rattle.audit.specs.Runs.{opened, begun, IsRun, outcome}
use Rattle.audit.proofs.audit.run.Goals as goal

pub returns : goal.returns
returns g c =
    let s = c.args.settings in
    let n = width_of (g.D.Domain.meaning c.args.domain) in
    let end = c.feed_all.new.audit in
    let book = c.new.ensures ∙ ap (opened s) c.width.ensures in
    let fresh : ◌≡◌ {A = Audit} (record { book = c.new.result; checksum = c.new-2.result; breach = None }) (begun s n) =
    ap (λ b. record { book = b; checksum = c.new-2.result; breach = None }) book
    ∙ ap (λ h. record { book = opened s n; checksum = record { h = h }; breach = None }) c.new-2.ensures in
    let ran : IsRun c.args.workload (record { book = c.new.result; checksum = c.new-2.result; breach = None }) end = c.in_ok-feed_all.ensures in
    let one = c.count.ensures in
    let two = c.count-2.ensures in
    let three = c.count-3.ensures in
    let boxes = c.boxes.ensures in
    let sum = c.value.ensures in
    let breach = c.end-breach.ensures in
    (end, c.accepted.result, c.suppressed.result, subst (λ a. IsRun c.args.workload a end) fresh ran, cc)
