-- From a call's answer to what is passed on. Assumes nothing.
use Rattle.std.proofs.Common.{◌≡◌, Some, None, Ok, Err, Option, Result, sym, ap, ◌∙◌, arith}
use Rattle.std.specs.Option.{option_map}
use Rattle.report.specs.declared.columns.Report.{Report}
use Rattle.report.specs.declared.faults.LineFault.{LineFault}
use Rattle.report.specs.Lines.{Outcome, told}
use Rattle.rules.specs.declared.refusals.Refusal.{Refusal}
use Rattle.intake.specs.declared.faults.FeedRefusal.{FeedRefusal}
use Rattle.intake.specs.Feeding.{at_line}

-- a refusal that is told with a line is that line's
pub of_line : (x : Report) (f : FeedRefusal) (o : Option Refusal) → Some f ≡ option_map (at_line x) o → f ≡ at_line x f.refusal
of_line x f None e = grind arith
of_line x f (Some y) e =
    let same : f ≡ at_line x y = grind arith in
    same ∙ ap (λ g. at_line x g.refusal) (sym same)

-- the reader took the line that it tells of
pub taken : (o : Result Report LineFault) (x : Report) → ◌≡◌ {A = Option Outcome} (Some (told o)) (Some (Ok x)) → o ≡ Ok x
taken (Ok y) x e = let same : y ≡ x = grind arith in ap Ok same
taken (Err y) x e = grind arith
