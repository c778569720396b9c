-- Taking over, round by round.
use Rattle.std.proofs.Common.{◌≡◌, ℕ, zero, suc, Bool, true, false, cond, eqb, leb, List, length, Some, None, refl, ap, ◌∙◌}
use Rattle.domain.specs.Meaning.{Meaning}
use Rattle.release.specs.declared.Settings.{Settings}
use Rattle.rules.specs.declared.Held.{Held}
use Rattle.rules.specs.Choosing.{In}
use Rattle.rules.specs.Clusters.{size, members, clusters}
use Rattle.rules.specs.States.{State, crowd}
use Rattle.rules.specs.Turn.{easiest, moved, merged, if_any, take_over, grown}
use Rattle.rules.proofs.Totals.{in_map}
use Rattle.rules.proofs.Choices.{clusters_law, moved_to}
use Rattle.rules.proofs.Opened.{is_open}
use Rattle.rules.proofs.Turns.{take_over_keeps}

module _ (m : Meaning) (k c : ℕ) (hs : List Held) where
  -- a cluster that is large takes nothing over
  pub large_stops : (n : ℕ) → leb k (size (members c hs)) ≡ true → take_over m k n c hs ≡ hs
  large_stops zero e = refl
  large_stops (suc n) e = ap (λ b. cond b hs (if_any hs (easiest m c hs) (λ d. take_over m k n c (merged c d hs)))) e

  -- nor does one that is alone
  pub alone_stops : (n : ℕ) → easiest m c hs ≡ None → take_over m k n c hs ≡ hs
  alone_stops zero e = refl
  alone_stops (suc n) e = ap (λ o. cond (leb k (size (members c hs))) hs (if_any hs o (λ d. take_over m k n c (merged c d hs)))) e ∙ either (leb k (size (members c hs)))
    where
      either : (b : Bool) → cond b hs hs ≡ hs
      either true = refl
      either false = refl

  pub takes_over : (n d : ℕ) → leb k (size (members c hs)) ≡ false → easiest m c hs ≡ Some d → take_over m k (suc n) c hs ≡ take_over m k n c (merged c d hs)
  takes_over n d e f = ap (λ b. cond b hs (if_any hs (easiest m c hs) (λ d. take_over m k n c (merged c d hs)))) e ∙ ap (λ o. if_any hs o (λ d. take_over m k n c (merged c d hs))) f

-- it stays open
pub merged_open : (c d : ℕ) (hs : List Held) → In (clusters hs) c → In (clusters (merged c d hs)) c
merged_open c d hs i =
    let r = (clusters_law hs).some_held c i in
    is_open c (merged c d hs) (moved c d r.0) (in_map (moved c d) hs r.0 r.1) (stays r.0 r.2 (eqb r.0.label d) refl)
  where
    stays : (h : Held) → h.label ≡ c → (b : Bool) → eqb h.label d ≡ b → (moved c d h).label ≡ c
    stays h e true f = moved_to c d h true f
    stays h e false f = moved_to c d h false f ∙ e

pub grown_open : (m : Meaning) (g : Settings) (s : State) (c : ℕ) → In (clusters s.held) c → In (clusters (grown m g s c).held) c
grown_open m g s c = take_over_keeps (λ hs. In (clusters hs) c) m (crowd g s) (length s.held) c (λ hs d i. merged_open c d hs i) s.held
