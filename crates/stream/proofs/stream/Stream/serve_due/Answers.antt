use Rattle.std.proofs.Common.{length, sym, refl, ap, arith}
use Rattle.stream.specs.Views.{view}
use Rattle.stream.proofs.Calling.{serves_none, serves_one}
use Rattle.stream.proofs.stream.Stream.serve_due.Goals as goal

pub returns-in-Some : goal.returns-in-Some
returns-in-Some g c = record {
  terms = c.turn.ensures.terms;
  serves = λ taken between stands room.
      let s = c.args.self.now in
      serves_one (g.D.Domain.meaning s.domain) s c.args.list.now c.in-Some.at c.turn.new.list c.turn.result c.turn.new.self
      (omega (arith, c.in-Some.ensures.within, ap length c.as_slice.ensures.value))
      (c.in-Some.ensures.first (view s) (sym c.as_slice.ensures.value) refl between.by_position)
      (λ t is. c.turn.ensures.comes t is taken between stands room);
  fits = c.turn.ensures.fits;
}

pub returns-in-None : goal.returns-in-None
returns-in-None g c = record {
  terms = record { domain = refl; settings = refl };
  serves = λ taken between stands room.
      let s = c.args.self.now in
      serves_none (g.D.Domain.meaning s.domain) s c.args.list.now stands (c.in-None.ensures.first (view s) (sym c.as_slice.ensures.value) refl between.by_position);
  fits = omega arith;
}
