use Rattle.std.proofs.Common.{ℕ, ◌+◌, ◌-◌, ◌*◌, ◌≤◌, length, get_or, ◌∙◌, arith}
use Rattle.std.proofs.lemmas.Int.{ints}
use Rattle.std.proofs.lemmas.Grind.{common_steps}
use Rattle.report.proofs.Digits.{digit_more, power, short}
use Rattle.report.proofs.numbers.digits.Goals as goal

pub loop-b-preserved : goal.loop-b-preserved
loop-b-preserved c =
    let d : ℕ = get_or c.args.text.now c.loop-b.b-index 0 - 48 in
    let n = c.loop-b.invariant.0 in
    let at_most : length c.args.text.now ≤ 10 = grind (arith, common_steps) in
    let digit = c.if-not-is_ascii_digit.ensures in
    let small = short n c.loop-b.b-index c.loop-b.invariant.2 (omega arith) in (
      n * 10 + d,
      omega (arith, ints),
      power n c.loop-b.b-index d c.loop-b.invariant.2 (omega arith),
      digit_more n c.args.text.now c.loop-b.b-index (omega arith) digit.value ∙ c.loop-b.invariant.3,
    )

pub overflow_add-value : goal.overflow_add-value
overflow_add-value c =
    let n = c.loop-b.invariant.0 in
    let at_most : length c.args.text.now ≤ 10 = grind (arith, common_steps) in
    let small = short n c.loop-b.b-index c.loop-b.invariant.2 (omega arith) in
    omega (arith, ints)
