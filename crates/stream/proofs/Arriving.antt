-- A pool has a place for the record that arrives.
use Rattle.std.proofs.Common.{◌≡◌, ℕ, ◌+◌, ◌<◌, ◌≤◌, true, ◌⊎◌, length, IfSome, IfNone, Some, None, vec_items, vec_len, vec_capacity, Option, ap, subst, inl, inr, arith}
use Rattle.std.specs.List.{AllByRecursion}
use Rattle.std.proofs.ByRecursion.{All-weaker}
use Rattle.std.proofs.lemmas.Bool.{lt-ltb, and_from}
use Rattle.domain.specs.Meaning.{Meaning}
use Rattle.release.specs.declared.Settings.{Settings}
use Rattle.rules.specs.declared.Entry.{Entry}
use Rattle.rules.specs.States.{State}
use Rattle.rules.specs.Runs.{History, Run}
use Rattle.rules.proofs.Wholeness.{run_lawful}
use Rattle.rules.proofs.Bounds.{facts}
use Rattle.pool.specs.declared.Pool.{Pool}
use Rattle.pool.specs.Tables.{Roomy}
use Rattle.pool.specs.Changes.{is_place, can_hold, can_open, SameMemory}
use Rattle.stream.specs.Housing.{HasPlace}

pub roomy_after : (before after : Pool) → SameMemory before after → Roomy before → Roomy after
roomy_after before after s r = record { for_held = omega (arith, s.for_held, r.for_held); for_clusters = omega (arith, s.for_clusters, r.for_clusters) }

module _ {m : Meaning} {g : Settings} {h : History} {s : State} (run : Run m g h s) (p : Pool) (same : s.held ≡ vec_items p.held) (roomy : Roomy p) where
  takes_one : can_hold p ≡ true
  takes_one = lt-ltb (vec_len p.held) (vec_capacity p.held) (omega (arith, (facts run).bounded.few_held, (run_lawful run).most_delay, ap length same, p.held.ok.0, roomy.for_held))

  takes_both : (vec_len p.clusters < g.beta) ⊎ (vec_len p.clusters ≡ 0) → can_open p ≡ true
  takes_both (inl l) = and_from (can_hold p) _ takes_one (lt-ltb (vec_len p.clusters) (vec_capacity p.clusters) (omega (arith, l, (run_lawful run).most_clusters, roomy.for_clusters)))
  takes_both (inr l) = and_from (can_hold p) _ takes_one (lt-ltb (vec_len p.clusters) (vec_capacity p.clusters) (omega (arith, l, roomy.for_clusters)))

  pub has_place : (e : Entry) → e.position ≡ s.accepted + 1 → (o : Option ℕ) → IfSome o (λ i. i < vec_len p.clusters) → IfNone o ((vec_len p.clusters < g.beta) ⊎ (vec_len p.clusters ≡ 0)) → HasPlace p o e
  has_place e at (Some i) l r = and_from (is_place p i) (can_hold p) (lt-ltb i (vec_len p.clusters) l) takes_one
  has_place e at None l r = (
    takes_both r,
    subst (AllByRecursion (λ h. h.label < e.position)) same (All-weaker (λ h. h.label ≤ s.accepted) (λ h. h.label < e.position) (λ h l. omega (arith, l, at)) s.held (facts run).ordered.old_labels),
  )
