use Rattle.std.proofs.Common.{length, sym, refl, ap, ◌∙◌}
use Rattle.std.proofs.lemmas.Bool.{true≢false}
use Rattle.rules.specs.Runs.{feeding}
use Rattle.stream.proofs.Calling.{goes_refused, fed_goes}
use Rattle.stream.proofs.stream.Stream.feed.Goals as goal

pub returns-in-Some : goal.returns-in-Some
returns-in-Some g c = record {
  refusal = c.in-Some.ensures;
  unchanged = λ _. (refl, refl);
  terms = record { domain = refl; settings = refl };
  goes_on = λ h leads. goes_refused (g.D.Domain.meaning c.args.self.now.domain) c.args.self.now h leads (feeding c.args.fed (length c.args.list.now)) c.args.list.now c.in-Some.refusal (sym c.in-Some.ensures);
}

pub returns : goal.returns
returns g c =
    let s = c.args.self.now in
    let m = g.D.Domain.meaning s.domain in
    let s' = c.arrive.new.self in
    let terms = c.arrive.ensures.terms in
    let terms' = c.serve_due.ensures.terms in
    record {
      refusal = c.in_default.ensures;
      unchanged = λ e. absurd (true≢false e);
      terms = record { domain = terms'.domain ∙ terms.domain; settings = terms'.settings ∙ terms.settings };
      goes_on = λ h leads.
          let none = sym c.in_default.ensures in
          fed_goes m s h leads c.args.list.now c.serve_due.new.list c.serve_due.result c.serve_due.ensures.fits c.serve_due.new.self c.args.fed (g.D.Domain.meaning s'.domain) s' none (ap g.D.Domain.meaning terms.domain) terms terms'
          (c.arrive.ensures.arrives h (length c.args.list.now) leads none) c.serve_due.ensures.serves;
    }
