use Rattle.std.proofs.Common.{map, ap, ◌∙◌}
use Rattle.std.proofs.lemmas.Result.{IfOk-weaker}
use Rattle.report.specs.Lines.{told}
use Rattle.report.proofs.ReadOn.{told_all}
use Rattle.report.proofs.Wholes.{whole}
use Rattle.report.proofs.texts.read_all.Goals as goal

pub returns-clause-whole : goal.returns-clause-whole
returns-clause-whole c = whole c.args.width.count c.args.text.now

pub returns-clause-outcomes : goal.returns-clause-outcomes
returns-clause-outcomes c =
    IfOk-weaker c.collect.result _ _
    (λ v ran.
    let end = ran.1.2 tt in
    ap (map told) ran.2.0 ∙ told_all c.args.text.now c.args.width c.begin.result end.0 ran.0 c.begin.ensures (ran.1.0, ran.1.1, end.1))
    c.collect.ensures.ran
