use Rattle.std.proofs.Common.{◌+◌, drop, Err, sym, ap, ◌∙◌, subst, arith}
use Rattle.std.proofs.lemmas.Result.{err_from_is_err_and}
use Rattle.rfc4180.proofs.Damages.{agrees}
use Rattle.rfc4180.proofs.Progress.{Sofar, start, at_fault, behind_comma, before_line_end, before_text_end, fits, read_faulty}
use Rattle.rfc4180.proofs.lines.read_line.Goals as goal

pub loop-field-init : goal.loop-field-init
loop-field-init c =
    subst (λ b. Sofar c.args.text.now c.args.place c.args.number c.args.fields.now (record { line = c.args.number; column = 1; byte = b }) c.args.fields.now)
    (sym c.min.ensures) (start c.args.text.now c.args.place c.args.number c.args.fields.now)

pub returns-in_err-field : goal.returns-in_err-field
returns-in_err-field c =
    let p = err_from_is_err_and c.from_residual.result c.from_residual.ensures.1 in
    let q = read_faulty c.loop-field.at _ c.in_err-field.field-0.0 c.in_err-field.ensures.told in
    let a = at_fault c.loop-field.invariant q.0 q.1 q.2 in
    record { agrees = agrees (drop c.args.place c.args.text.now); answer = p.1 ∙ ap Err (p.2 ∙ q.3) ∙ a.answer; fields = a.filled }

pub behind_comma-at-requires : goal.behind_comma-at-requires
behind_comma-at-requires c =
    let size = fits c.loop-field.invariant c.in_ok-field.field _ _ c.in_ok-field.ensures.told c.put.ensures (ap (λ n. c.loop-field.at.byte + n) c.size.ensures) (sym c.in-Comma.ensures) in
    (omega arith, omega arith)

pub loop-field-preserved : goal.loop-field-preserved
loop-field-preserved c =
    subst (λ l. Sofar c.args.text.now c.args.place c.args.number c.args.fields.now l c.put.new.fields) (sym c.behind_comma-at.ensures)
    (behind_comma c.loop-field.invariant c.in_ok-field.field _ _ c.in_ok-field.ensures.told c.put.ensures (ap (λ n. c.loop-field.at.byte + n) c.size.ensures) (sym c.in-Comma.ensures))

pub returns-in-LineEnd : goal.returns-in-LineEnd
returns-in-LineEnd c =
    let a = before_line_end c.loop-field.invariant c.in_ok-field.field _ _ c.in_ok-field.ensures.told c.put.ensures (ap (λ n. c.loop-field.at.byte + n) c.size.ensures) (omega (arith, c.in_ok-field.ensures.within, c.size.ensures)) (sym c.in-LineEnd.ensures) in
    record { agrees = agrees (drop c.args.place c.args.text.now); answer = a.answer; fields = a.filled }

pub returns-in-TextEnd : goal.returns-in-TextEnd
returns-in-TextEnd c =
    let a = before_text_end c.loop-field.invariant c.in_ok-field.field _ _ c.in_ok-field.ensures.told c.put.ensures (ap (λ n. c.loop-field.at.byte + n) c.size.ensures) (omega (arith, c.in_ok-field.ensures.within, c.size.ensures)) (sym c.in-TextEnd.ensures) in
    record { agrees = agrees (drop c.args.place c.args.text.now); answer = a.answer; fields = a.filled }
