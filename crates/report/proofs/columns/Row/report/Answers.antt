use Rattle.std.proofs.Common.{◌≡◌, ◌+◌, ℕ, length, map, Some, None, arith, rules, length-take-le}
use Rattle.rfc4180.specs.Told.{field_text}
use Rattle.report.proofs.Parsed.{number_at, reading_at, value_spoilt, one_more, reading_spoilt, done, padded}
use Rattle.report.proofs.columns.Row.report.Goals as goal

pub returns-in_err-value : goal.returns-in_err-value
returns-in_err-value c =
    let fields = c.args.self.now.fields.now in
    let long : length c.loop-i.value-items ≡ c.args.width = omega (arith, length-take-le {A = ℕ}) in
    let none : number_at (map field_text fields) (c.loop-i.i + 1) ≡ None = search rules in
    let read = value_spoilt fields c.args.width c.requires.count c.loop-i.invariant long (omega arith) none in
    search rules

pub loop-i-preserved : goal.loop-i-preserved
loop-i-preserved c =
    let fields = c.args.self.now.fields.now in
    let long : length c.loop-i.value-items ≡ c.args.width = omega (arith, length-take-le {A = ℕ}) in
    one_more fields c.args.width c.requires.count c.loop-i.invariant long (omega arith) c.in_ok-value.field-0 (search rules)

pub returns-in_err-reading : goal.returns-in_err-reading
returns-in_err-reading c =
    let fields = c.args.self.now.fields.now in
    let long : length c.loop-i.value-items ≡ c.args.width = omega (arith, length-take-le {A = ℕ}) in
    let none : reading_at (map field_text fields) (c.args.width + 1) ≡ None = search rules in
    let read = reading_spoilt fields c.args.width c.requires.count c.loop-i.invariant long (omega arith) none in
    search rules

pub returns : goal.returns
returns c =
    let fields = c.args.self.now.fields.now in
    let long : length c.loop-i.value-items ≡ c.args.width = omega (arith, length-take-le {A = ℕ}) in
    let some : reading_at (map field_text fields) (c.args.width + 1) ≡ Some c.in_ok-reading.reading = search rules in
    let read = done fields c.args.width c.requires.count c.loop-i.invariant long (omega arith) c.in_ok-reading.reading some in
    let shown = padded c.loop-i.value-items c.args.width long c.requires.narrow in
    search rules
