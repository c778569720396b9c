use Rattle.std.proofs.Common.{◌≡◌, ℕ, ◌+◌, ◌<◌, ◌≤◌, length, get_or}
use Rattle.workload.specs.Draws.{ahead, drawn}
use Rattle.workload.proofs.source.Source.values.Given as goal

abbrev pub invariant-loop-i : goal.invariant-loop-i
invariant-loop-i l =
    (length l.values ≡ 6) × (l.self.x ≡ ahead l.i l.initial.self.x) ×
    ((k : ℕ) → k < l.i → get_or l.values k 0 ≡ drawn l.initial.self.x (k + 1) (get_or l.sizes k 0)) ×
    ((k : ℕ) → l.i ≤ k → get_or l.values k 0 ≡ 0)
