use Rattle.std.proofs.Common.{ltb, vec_items, vec_len, refl, ap, ◌∙◌, arith}
use Rattle.std.specs.List.{remove}
use Rattle.std.proofs.lemmas.Bool.{lt-ltb, cond-true}
use Rattle.rules.specs.States.{holding}
use Rattle.rules.proofs.Between.{removed_without}
use Rattle.stream.specs.Views.{view}
use Rattle.stream.proofs.Arriving.{roomy_after}
use Rattle.stream.proofs.Writing.{writes_one}
use Rattle.stream.proofs.stream.Stream.write_off.Goals as goal

pub returns : goal.returns
returns g c = record {
  terms = record { domain = refl; settings = refl };
  comes = λ t is l room up stands.
      let s = c.args.self.now in
      let hs = vec_items s.pool.held in
      let at = c.args.at in
      let within = lt-ltb at (vec_len s.pool.held) l in
      let gone = c.leave.ensures.held ∙ cond-true (ltb at (vec_len s.pool.held)) (remove hs at) hs within ∙ removed_without hs at t up (omega (arith, l, s.pool.held.ok.0)) is in
      record {
        holds = record {
          state = ap (holding (view s)) gone;
          stands = record { table = c.leave.ensures.faithful stands.table; kept = stands.kept; window = stands.window; room = roomy_after s.pool c.leave.new.self c.leave.ensures.memory stands.room };
        };
        writes = writes_one c.args.line c.args.list.now c.put.new.list c.put.result room c.put.ensures.list c.put.ensures.count;
      };
  fits = omega (arith, c.put.ensures.count);
}
