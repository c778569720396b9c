-- Taking over on a stream, round by round.
use Rattle.std.proofs.Common.{◌≡◌, ℕ, suc, ◌-◌, ◌<◌, ◌≤◌, Bool, true, false, leb, List, length, vec_items, vec_len, sym, refl, ap, ◌∙◌, subst, ⊎_elim, arith}
use Rattle.std.specs.List.{AllByRecursion}
use Rattle.std.proofs.ByRecursion.{All-map, All-weaker}
use Rattle.domain.specs.Meaning.{Meaning}
use Rattle.rules.specs.declared.Held.{Held}
use Rattle.rules.specs.Around.{Fit}
use Rattle.rules.specs.Choosing.{In}
use Rattle.rules.specs.Clusters.{size, members, clusters}
use Rattle.rules.specs.States.{State, holding}
use Rattle.rules.specs.Turn.{moved, merged, take_over, grown}
use Rattle.rules.proofs.Turns.{moved_entry}
use Rattle.rules.proofs.Rounds.{large_stops, alone_stops, takes_over, merged_open}
use Rattle.choice.proofs.Labels.{length_table}
use Rattle.stream.proofs.Merging.{clusters_le}
use Rattle.stream.specs.declared.stream.Stream.{Stream}
use Rattle.stream.specs.Views.{view, Stands}
use Rattle.stream.specs.Within.{SameTerms, Holds, Round}

pub merged_fit : (m : Meaning) (c d : ℕ) (hs : List Held) → AllByRecursion (λ h. Fit m h.entry) hs → AllByRecursion (λ h. Fit m h.entry) (merged c d hs)
merged_fit m c d hs a = All-map (λ h. Fit m h.entry) (moved c d) hs (All-weaker (λ h. Fit m h.entry) (λ h. Fit m (moved c d h).entry) (λ h f. subst (Fit m) (sym (moved_entry c d h)) f) hs a)

module _ {D : Type 0} (m : Meaning) (c : ℕ) where
  abbrev held : Stream D → List Held
  held s = vec_items s.pool.held

  -- what a round is given
  pub record Ready (s : Stream D) : Type 0 where
    pub stands : Stands m s
    pub fit : AllByRecursion (λ h. Fit m h.entry) (held s)
    pub is_open : In (clusters (held s)) c

  -- after some rounds: what so many more give is what all rounds give
  pub record Grows (start s : Stream D) : Type 0 where
    pub rounds : ℕ
    pub enough : vec_len s.pool.clusters ≤ rounds
    pub left : take_over m start.settings.k rounds c (held s) ≡ take_over m start.settings.k (length (held start)) c (held start)
    pub rest : view s ≡ holding (view start) (held s)
    pub ready : Ready s

  pub grows_none : (s : Stream D) → Ready s → Grows s s
  grows_none s r = record {
    rounds = length (held s);
    enough = omega (arith, s.pool.clusters.ok.0, length_table m (held s) (vec_items s.pool.clusters) r.stands.table, clusters_le (held s));
    left = refl;
    rest = refl;
    ready = r;
  }

  pub grows_more : (start s t : Stream D) → SameTerms start s → Grows start s → vec_len t.pool.clusters < vec_len s.pool.clusters → Round m c true s t → Grows start t
  grows_more start s t terms a fewer r =
      let d = r.0 in
      let hs = held s in
      let k = start.settings.k in
      let same : held t ≡ merged c d hs = ap (λ (x : State). x.held) r.3.state in
      let small : leb k (size (members c hs)) ≡ false = ap (λ g. leb g.k (size (members c hs))) (sym terms.settings) ∙ r.1 in
      let next : a.rounds ≡ suc (a.rounds - 1) = omega (arith, a.enough, fewer) in
      record {
        rounds = a.rounds - 1;
        enough = omega (arith, a.enough, fewer);
        left = ap (take_over m k (a.rounds - 1) c) same ∙ sym (takes_over m k c hs (a.rounds - 1) d small r.2) ∙ ap (λ x. take_over m k x c hs) (sym next) ∙ a.left;
        rest = r.3.state ∙ ap (λ (x : State). holding x (merged c d hs)) a.rest ∙ ap (holding (view start)) (sym same);
        ready = record {
          stands = r.3.stands;
          fit = subst (AllByRecursion (λ h. Fit m h.entry)) (sym same) (merged_fit m c d hs a.ready.fit);
          is_open = subst (λ x. In (clusters x) c) (sym same) (merged_open c d hs a.ready.is_open);
        };
      }

  pub grows_stop : (start s t : Stream D) → SameTerms start s → Grows start s → Round m c false s t → Holds m (grown m start.settings (view start) c) t
  grows_stop start s t terms a r =
      let hs = held s in
      let k = start.settings.k in
      let stop : take_over m k a.rounds c hs ≡ hs = ⊎_elim (λ w. large_stops m k c hs a.rounds (ap (λ g. leb g.k (size (members c hs))) (sym terms.settings) ∙ w)) (λ w. alone_stops m k c hs a.rounds w) r.0 in
      record { state = r.1.state ∙ a.rest ∙ ap (holding (view start)) (sym stop ∙ a.left); stands = r.1.stands }

  -- a round that is told of the domain's meaning by another name
  pub round_at : (m' : Meaning) (b : Bool) (s t : Stream D) → m' ≡ m → (Stands m' s → AllByRecursion (λ h. Fit m' h.entry) (held s) → In (clusters (held s)) c → Round m' c b s t) → Ready s → Round m c b s t
  round_at m' b s t e f r = subst (λ x. Stands x s → AllByRecursion (λ h. Fit x h.entry) (held s) → In (clusters (held s)) c → Round x c b s t) e f r.stands r.fit r.is_open
