-- A turn, rule by rule.
use Rattle.std.proofs.Common.{◌≡◌, ℕ, zero, suc, ◌<◌, ◌≤◌, ◌⊎◌, List, [], ◌∷◌, length, get_or, None, vec_items, sym, refl, ap, ◌∙◌, subst, inl, inr, arith}
use Rattle.std.proofs.lemmas.List.{get_or_default}
use Rattle.domain.specs.Meaning.{Meaning}
use Rattle.release.specs.declared.Line.{Line}
use Rattle.rules.specs.declared.Held.{Held}
use Rattle.rules.specs.Choosing.{In}
use Rattle.rules.specs.Clusters.{size, members, clusters}
use Rattle.rules.specs.Facts.{Between}
use Rattle.rules.specs.Refusals.{open_refusal}
use Rattle.rules.specs.Release.{release}
use Rattle.rules.specs.Turn.{Rule, large, outnumbered, too_few, joining, rule, applied, turn, suppress, grown}
use Rattle.rules.proofs.Between.{grown_between, grown_length}
use Rattle.rules.proofs.Fairness.{Says, rule_says}
use Rattle.rules.proofs.Opened.{is_open}
use Rattle.rules.proofs.Rounds.{grown_open}
use Rattle.rules.proofs.Turns.{grown_large}
use Rattle.stream.specs.declared.stream.Stream.{Stream}
use Rattle.stream.specs.Views.{view, Stands}
use Rattle.stream.specs.Within.{SameTerms, Holds, Comes}

-- what is read at a place is what stands there
pub same_read : {X : Type 0} (xs : List X) (i : ℕ) (x t : X) → i < length xs → x ≡ get_or xs i x → get_or xs i t ≡ t → x ≡ t
same_read xs i x t l e f = e ∙ get_or_default xs i x t l ∙ f

pub in_place : {X : Type 0} (xs : List X) (i : ℕ) (t : X) → i < length xs → get_or xs i t ≡ t → In xs t
in_place [] i t l e = absurd (omega (arith, l))
in_place (x ∷ xs) zero t l e = inl e
in_place (x ∷ xs) (suc i) t l e = inr (in_place xs i t (omega (arith, l)) e)

module _ {D : Type 0} where
  abbrev held : Stream D → List Held
  held s = vec_items s.pool.held

  -- what is promised of the release of a cluster
  abbrev pub Releases : Meaning → Stream D → ℕ → List Line → List Line → ℕ → Stream D → Type 0
  Releases m s c before after count t =
      open_refusal m s.settings ≡ None → Between m s.settings (view s) → Stands m s → In (clusters (held s)) c → s.settings.k ≤ size (members c (held s)) → length (held s) ≤ length before
      → Comes m (release m s.settings (view s) c) before after count t

  module _ (m : Meaning) (s : Stream D) (t : Held) (i : In (held s) t) (taken : open_refusal m s.settings ≡ None) (between : Between m s.settings (view s)) (stands : Stands m s)
      (before : List Line) (room : length (held s) ≤ length before) where
    by_rule : (r : Rule) → r ≡ rule m s.settings (view s) t → applied m s.settings (view s) t r ≡ turn m s.settings (view s) t
    by_rule r e = ap (applied m s.settings (view s) t) e

    pub large_turn : (after : List Line) (count : ℕ) (u : Stream D) → large ≡ rule m s.settings (view s) t → Releases m s t.label before after count u → Comes m (turn m s.settings (view s) t) before after count u
    large_turn after count u e f =
        let says : s.settings.k ≤ size (members t.label (held s)) = subst (Says m s.settings (view s) t) (sym e) (rule_says m s.settings (view s) t) in
        subst (λ o. Comes m o before after count u) (by_rule large e) (f taken between stands (is_open t.label (held s) t i refl) says room)

    pub suppressed_turn : (r : Rule) → r ≡ rule m s.settings (view s) t → (r ≡ outnumbered) ⊎ (r ≡ too_few) → suppress (view s) t ≡ turn m s.settings (view s) t
    suppressed_turn r e (inl f) = ap (applied m s.settings (view s) t) (sym f ∙ e)
    suppressed_turn r e (inr f) = ap (applied m s.settings (view s) t) (sym f ∙ e)

    pub joining_turn : (m' : Meaning) (s' u : Stream D) (after : List Line) (count : ℕ) → joining ≡ rule m s.settings (view s) t → m' ≡ m → SameTerms s s' → Holds m (grown m s.settings (view s) t.label) s'
        → Releases m' s' t.label before after count u → Comes m (turn m s.settings (view s) t) before after count u
    joining_turn m' s' u after count e same terms h f =
        let g = s.settings in
        let c = t.label in
        let s'' = grown m g (view s) c in
        let says = subst (Says m g (view s) t) (sym e) (rule_says m g (view s) t) in
        let f' : Releases m s' c before after count u = subst (λ x. Releases x s' c before after count u) same f in
        let now_held : held s' ≡ s''.held = ap (λ x. x.held) h.state in
        let come = f'
        (subst (λ x. open_refusal m x ≡ None) (sym terms.settings) taken)
        (subst (λ x. Between m x (view s')) (sym terms.settings) (subst (Between m g) (sym h.state) (grown_between m g (view s) c between)))
        h.stands
        (subst (λ x. In (clusters x) c) (sym now_held) (grown_open m g (view s) c (is_open c (held s) t i refl)))
        (subst (λ x. x.k ≤ size (members c (held s'))) (sym terms.settings) (subst (λ x. g.k ≤ size (members c x)) (sym now_held) (grown_large m g (view s) c says)))
        (omega (arith, room, ap length now_held, grown_length m g (view s) c)) in
        subst (λ o. Comes m o before after count u)
        (ap (λ x. release m x (view s') c) terms.settings ∙ ap (λ x. release m g x c) h.state ∙ by_rule joining e)
        come
