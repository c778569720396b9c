use Rattle.std.proofs.Common.{vec_items, ◌∙◌, arith}
use Rattle.rules.specs.Promise.{accepted, written}
use Rattle.rules.proofs.Totals.{length_total}
use Rattle.rules.proofs.Wholeness.{good}
use Rattle.stream.proofs.stream.Stream.held.Goals as goal

pub returns : goal.returns
returns g c =
    let hs = vec_items c.args.self.now.pool.held in
    record {
      value = c.len.ensures ∙ c.args.self.now.pool.held.ok.0;
      counts = λ h leads. omega (arith, (good leads.run).sums (λ _. 1), length_total hs, length_total (written h), length_total (accepted h), c.len.ensures, c.args.self.now.pool.held.ok.0);
    }
