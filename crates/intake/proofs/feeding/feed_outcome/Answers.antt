use Rattle.std.proofs.Common.{Some, Err, ap}
use Rattle.std.specs.Option.{option_map}
use Rattle.std.proofs.lemmas.Result.{err_from_is_err_and}
use Rattle.intake.specs.declared.faults.FeedFault.TheVariants.{Feed}
use Rattle.intake.specs.Faults.{refusal_diagnostic}
use Rattle.intake.proofs.Passing.{of_line}
use Rattle.intake.proofs.feeding.feed_outcome.Goals as goal

pub returns-in_err-written : goal.returns-in_err-written
returns-in_err-written g c =
    let p = err_from_is_err_and c.from_residual-in_err-written.result c.from_residual-in_err-written.ensures.1 in
    let f = c.in_err-written.field-0.0 in
    let x = c.in_ok-report.report in
    let fed = c.in_err-written.ensures in
    rw (p.1, p.2, c.in_ok-report.was)
    (record {
      reason = ap (option_map refusal_diagnostic) fed.refusal;
      whole = tt;
      unchanged = fed.unchanged;
      terms = fed.terms;
      goes_on = λ h leads. record {
        answer = Err f.refusal;
        passed_on = ap (λ y. Some (Err (Feed y))) (of_line x f _ fed.refusal);
        goes_on = fed.goes_on h leads;
      };
    })
