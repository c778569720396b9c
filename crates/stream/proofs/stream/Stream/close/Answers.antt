use Rattle.std.proofs.Common.{length, sym, refl}
use Rattle.std.proofs.lemmas.Bool.{true≢false}
use Rattle.rules.specs.Runs.{closing}
use Rattle.stream.proofs.Calling.{goes_refused, closed_goes}
use Rattle.stream.proofs.stream.Stream.close.Goals as goal

pub returns-in-Some : goal.returns-in-Some
returns-in-Some g c = record {
  refusal = c.in-Some.ensures;
  unchanged = λ _. (refl, refl);
  terms = record { domain = refl; settings = refl };
  goes_on = λ h leads. goes_refused (g.D.Domain.meaning c.args.self.now.domain) c.args.self.now h leads (closing (length c.args.list.now)) c.args.list.now c.in-Some.refusal (sym c.in-Some.ensures);
}

pub returns : goal.returns
returns g c =
    let s = c.args.self.now in
    let m = g.D.Domain.meaning s.domain in
    let terms = c.drain.ensures.terms in
    record {
      refusal = c.in_default.ensures;
      unchanged = λ e. absurd (true≢false e);
      terms = record { domain = terms.domain; settings = terms.settings };
      goes_on = λ h leads.
          let kept = leads.stands in
          closed_goes m s h leads c.args.list.now c.drain.new.list c.drain.result c.drain.ensures.fits c.drain.new.self _ refl refl terms.settings (sym c.in_default.ensures)
          (record { table = kept.table; kept = kept.kept; window = kept.window; room = kept.room }) c.drain.ensures.drained;
    }
