use Rattle.std.proofs.Common.{◌≡◌, ℕ, ◌^◌, ◌<◌, drop, pos}
use Rattle.report.specs.Numbers.{behind_number}
use Rattle.report.proofs.numbers.digits.Given as goal

abbrev pub invariant-loop-b : goal.invariant-loop-b
invariant-loop-b l =
    (n : ℕ) × (l.value ≡ pos n) × (n < 10 ^ l.b-index) × (behind_number n (drop l.b-index l.text) ≡ behind_number 0 l.text)
