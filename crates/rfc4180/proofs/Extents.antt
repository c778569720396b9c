-- How far a field's bytes go: one run behind another. Assumes nothing.
use Rattle.std.proofs.Common.{◌≡◌, ℕ, ◌+◌, ap, arith, Ok, Err}
use Rattle.rfc4180.specs.declared.fields.RunFault.TheVariants.{Offends, Runs}
use Rattle.rfc4180.specs.Reading.{Extent, further}

pub further_none : (r : Extent) → further 0 r ≡ r
further_none (Ok n) = ap Ok (omega arith)
further_none (Err (Offends n)) = ap (λ n. Err (Offends n)) (omega arith)
further_none (Err (Runs n)) = ap (λ n. Err (Runs n)) (omega arith)

pub further_further : (j k : ℕ) (r : Extent) → further j (further k r) ≡ further (j + k) r
further_further j k (Ok n) = ap Ok (omega arith)
further_further j k (Err (Offends n)) = ap (λ n. Err (Offends n)) (omega arith)
further_further j k (Err (Runs n)) = ap (λ n. Err (Runs n)) (omega arith)
