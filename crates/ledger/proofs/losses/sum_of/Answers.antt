use Rattle.std.proofs.Common.{◌≡◌, sum, rules, arith}
use Rattle.std.proofs.lemmas.List.{get_or_default}
use Rattle.std.proofs.lemmas.List.Sums.{sum_by-le}
use Rattle.ledger.proofs.losses.sum_of.Goals as goal

pub returns-clause-bound : goal.returns-clause-bound
returns-clause-bound c =
    let xs = c.args.losses.now in
    let whole : c.sum.result ≡ sum xs = search rules in
    omega (arith, whole, sum_by-le (λ x. x) 4294967295 xs (λ i d l. omega (arith, c.type_inv.losses i, get_or_default xs i d 0 l)))
