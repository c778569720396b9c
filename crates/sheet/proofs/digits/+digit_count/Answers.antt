use Rattle.std.proofs.Common.{◌/◌, arith}
use Rattle.std.proofs.lemmas.Fmt.{length-decimal-le}
use Rattle.itoa.proofs.Decimal.{length_one, length_two, length_pair, length_four}
use Rattle.sheet.proofs.digits.+digit_count.Goals as goal

pub returns-in-0-to-9-clause-value : goal.returns-in-0-to-9-clause-value
returns-in-0-to-9-clause-value t c = omega (arith, length_one c.args.n (omega arith))

pub returns-in-10-to-99-clause-value : goal.returns-in-10-to-99-clause-value
returns-in-10-to-99-clause-value t c = omega (arith, length_two c.args.n (omega arith) (omega arith))

pub returns-in-100-to-999-clause-value : goal.returns-in-100-to-999-clause-value
returns-in-100-to-999-clause-value t c = omega (arith, length_pair c.args.n (omega arith) (omega arith), length_one (c.args.n / 100) (omega arith))

pub returns-in-1000-to-9999-clause-value : goal.returns-in-1000-to-9999-clause-value
returns-in-1000-to-9999-clause-value t c = omega (arith, length_pair c.args.n (omega arith) (omega arith), length_two (c.args.n / 100) (omega arith) (omega arith))

pub returns-in_default-clause-value : goal.returns-in_default-clause-value
returns-in_default-clause-value t c = omega (arith, length_four c.args.n (omega arith) (omega arith))

pub returns-in_default-clause-bound : goal.returns-in_default-clause-bound
returns-in_default-clause-bound t c = omega (arith, length_four c.args.n (omega arith) (omega arith), length-decimal-le 10 c.args.n (omega arith) (omega arith) (omega arith))
