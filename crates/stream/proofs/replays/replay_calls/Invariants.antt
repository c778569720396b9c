use Rattle.std.proofs.Common.{◌≡◌, length, vec_items}
use Rattle.stream.proofs.Replaying.{Plays}
use Rattle.stream.proofs.replays.replay_calls.Given as goal

abbrev pub invariant-loop-call : goal.invariant-loop-call
invariant-loop-call g l =
    (l.stream.domain ≡ l.initial.stream.domain)
    × (length l.list ≡ length l.initial.list)
    × Plays (g.D.Domain.meaning l.initial.stream.domain) l.initial.stream.settings l.calls (length l.initial.list) l.call-index l.stream (vec_items l.lines)
