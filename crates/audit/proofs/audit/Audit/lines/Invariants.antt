use Rattle.std.proofs.Common.{◌≡◌, fold, take}
use Rattle.audit.specs.Audits as audits
use Rattle.audit.proofs.audit.Audit.lines.Given as goal

abbrev pub invariant-loop-line : goal.invariant-loop-line
invariant-loop-line l = l.self ≡ fold (audits.audited l.fn.moment) l.fn.self (take l.line-index l.lines)
