use Rattle.std.proofs.Common.{◌≡◌, ℕ, ◌≤◌, List, length, take}
use Rattle.domain.specs.Meaning.{Meaning}
use Rattle.release.specs.declared.Settings.{Settings}
use Rattle.ledger.specs.Ledgers.{window_of}
use Rattle.rules.specs.declared.Entry.{Entry}
use Rattle.rules.specs.Split.{parts}
use Rattle.stream.specs.Releases.{PartsOut}
use Rattle.stream.proofs.Outputs.{Given}
use Rattle.stream.proofs.releases.release_parts.Given as goal

abbrev pub invariant-loop-j : goal.invariant-loop-j
invariant-loop-j l = record {
  window : window_of l.ledger ≡ window_of l.initial.ledger;
  out : (m : Meaning) (g : Settings) (k : ℕ) (es : List Entry) → Given m g k es l.members l.parts l.initial.ledger l.initial.list → PartsOut m g (take l.j (parts m k es)) l.initial.ledger l.ledger l.initial.list l.list l.n;
  fits : l.n ≤ length l.initial.list;
}
