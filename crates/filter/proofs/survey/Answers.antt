use Rattle.std.proofs.Common.{length, is_ok, filter, ap, ◌∙◌, subst, arith}
use Rattle.report.specs.Lines.{outcomes}
use Rattle.report.specs.Whole.{Whole}
use Rattle.filter.proofs.Counting.{told_taken}
use Rattle.filter.proofs.survey.Goals as goal

pub returns : goal.returns
returns c =
    let input = c.args.input.now in
    let two = c.in-Ok.ensures in
    let lines = c.in_ok-lines.ensures.outcomes ∙ ap (λ n. outcomes n input) two in
    record {
      short = omega arith;
      lines = lines;
      taken =
          c.count_taken-taken.ensures ∙ ap (λ l. length (filter is_ok l)) c.deref.ensures.value
          ∙ told_taken c.in_ok-lines.lines.items ∙ ap (λ l. length (filter is_ok l)) lines;
      whole = subst (λ n. Whole n input) two c.read_all.ensures.whole;
    }
