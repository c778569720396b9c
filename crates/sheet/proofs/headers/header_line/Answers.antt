use Rattle.std.proofs.Common.{◌+◌, length, Err, sym, ap, ◌∙◌, arith}
use Rattle.sheet.specs.declared.faults.HeaderFault.TheVariants.{Text, Fields}
use Rattle.sheet.specs.Calls.{room_answer}
use Rattle.sheet.proofs.Heads.{checked}
use Rattle.sheet.proofs.headers.header_line.Goals as goal

pub returns-then-line-header-clause-refused : goal.returns-then-line-header-clause-refused
returns-then-line-header-clause-refused c room =
    let all = checked c.args.width.count c.args.header.now c.in_ok-line.line (sym c.in_ok-line.was ∙ c.read_line.ensures.answer) in
    all.behind (omega arith) room ∙ ap (λ f. Err (Text f)) (sym c.second_line.ensures)

pub returns-then-line-wanted-clause-refused : goal.returns-then-line-wanted-clause-refused
returns-then-line-wanted-clause-refused c room =
    let all = checked c.args.width.count c.args.header.now c.in_ok-line.line (sym c.in_ok-line.was ∙ c.read_line.ensures.answer) in
    all.fields (omega arith) (omega arith) room ∙ ap (λ w. Err (Fields c.in_ok-line.line.fields (w + 1))) (sym c.count-wanted.ensures)

pub returns-clause-taken : goal.returns-clause-taken
returns-clause-taken c room =
    let all = checked c.args.width.count c.args.header.now c.in_ok-line.line (sym c.in_ok-line.was ∙ c.read_line.ensures.answer) in
    all.taken (omega arith) (omega arith) room ∙ ap (λ l. room_answer room (length l + 2)) (sym c.content.ensures)
