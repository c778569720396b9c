use Rattle.std.proofs.Common.{true, false, refl, ap, ◌∙◌}
use Rattle.stream.proofs.Growing.{grows_none, grows_more, grows_stop, round_at}
use Rattle.stream.proofs.stream.Stream.grow.Goals as goal

pub loop-init : goal.loop-init
loop-init g c = (record { domain = refl; settings = refl }, grows_none (g.D.Domain.meaning c.args.self.now.domain) c.args.label c.args.self.now)

pub loop-preserved : goal.loop-preserved
loop-preserved g c =
    let inv = c.loop.invariant in
    let start = c.args.self.now in
    let s = c.loop.self in
    let t = c.take_over.new.self in
    let m = g.D.Domain.meaning start.domain in
    let terms = c.take_over.ensures.terms in (
      record { domain = terms.domain ∙ inv.0.domain; settings = terms.settings ∙ inv.0.settings },
      λ r.
          let a = inv.1 r in
          grows_more m c.args.label start s t inv.0 a (c.loop-test.ensures.closes refl)
          (round_at m c.args.label (g.D.Domain.meaning s.domain) true s t (ap g.D.Domain.meaning inv.0.domain) c.loop-test.ensures.round a.ready),
    )

pub returns : goal.returns
returns g c =
    let inv = c.loop.invariant in
    let start = c.args.self.now in
    let s = c.loop.self in
    let t = c.take_over.new.self in
    let m = g.D.Domain.meaning start.domain in
    let terms = c.take_over.ensures.terms in
    record {
      terms = record { domain = terms.domain ∙ inv.0.domain; settings = terms.settings ∙ inv.0.settings };
      grown = λ stands fit is_open.
          let a = inv.1 (record { stands = stands; fit = fit; is_open = is_open }) in
          grows_stop m c.args.label start s t inv.0 a
          (round_at m c.args.label (g.D.Domain.meaning s.domain) false s t (ap g.D.Domain.meaning inv.0.domain) c.loop-test.ensures.round a.ready);
    }
