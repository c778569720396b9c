use Rattle.std.proofs.Common.{ap, ◌∙◌, sym, subst, ◌<◌, arith, w64, Fits, rules}
use Rattle.workload.specs.Draws.{part}
use Rattle.workload.proofs.Parts.{part_below}
use Rattle.workload.proofs.source.Source.below.Goals as goal

pub returns : goal.returns
unfolding part
returns c =
    let f : Fits w64 c.turn.new.self.x = search rules in
    let same = ap (λ n. part n c.turn.new.self.x) c.from.ensures in
    let bound = part_below c.args.n c.turn.new.self.x (omega arith) in
    record {
      value = same ∙ ap (part c.args.n) c.turn.ensures;
      bound = λ p. subst (λ r. r < c.args.n) (sym same) (bound p);
      source = c.turn.ensures;
    }
