-- Draining a stream, turn by turn.
use Rattle.std.proofs.Common.{◌≡◌, ℕ, suc, ◌+◌, ◌-◌, ◌<◌, ◌≤◌, ◌⊎◌, List, [], ◌∷◌, length, get_or, Some, None, vec_items, sym, refl, ap, subst, ⊎_elim, arith}
use Rattle.std.specs.List.{between}
use Rattle.std.proofs.lemmas.List.Edits.{length-between}
use Rattle.domain.specs.Meaning.{Meaning}
use Rattle.release.specs.declared.Line.{Line}
use Rattle.rules.specs.declared.Held.{Held}
use Rattle.rules.specs.Choosing.{head}
use Rattle.rules.specs.Facts.{Between}
use Rattle.rules.specs.Refusals.{open_refusal}
use Rattle.rules.specs.Runs.{drain}
use Rattle.rules.specs.Turn.{turn}
use Rattle.rules.proofs.Refused.{lawful}
use Rattle.stream.specs.declared.stream.Stream.{Stream}
use Rattle.stream.specs.Views.{view, Stands}
use Rattle.stream.specs.Within.{SameTerms, Comes, outcome_of}
use Rattle.stream.proofs.Draining.{drain_empty, Drains, drains_none, drains_more, drains_end}
use borrow.Rule.Slice.PartMut.{put_mid}

first_of : (hs : List Held) → 0 < length hs → (t : Held) × (head hs ≡ Some t) × (get_or hs 0 t ≡ t)
first_of [] l = absurd (omega (arith, l))
first_of (h ∷ hs) l = (h, refl, refl)

module _ {D : Type 0} where
  abbrev held : Stream D → List Held
  held s = vec_items s.pool.held

  module _ (m : Meaning) (start : Stream D) (before : List Line) where
    -- what draining is given
    pub record Full : Type 0 where
      pub taken : open_refusal m start.settings ≡ None
      pub between : Between m start.settings (view start)
      pub stands : Stands m start
      pub room : length (held start) ≤ length before

    -- before the last r of n rounds
    pub record Empties (n r : ℕ) (s : Stream D) (list : List Line) (count : ℕ) : Type 0 where
      pub drains : Drains m start.settings n r (view start) before (view s) list count
      pub stands : Stands m s

    pub empties_none : (n : ℕ) → Full → Empties n n start before 0
    empties_none n f = record { drains = drains_none m start.settings (view start) before n f.between f.room; stands = f.stands }

    pub empties_more : (n r : ℕ) (m' : Meaning) (s u : Stream D) (list part : List Line) (count k : ℕ) → Full → m' ≡ m → SameTerms start s → 0 < length (held s) → Empties n (suc r) s list count → count ≤ length list → length list ≡ length before
        → ((t : Held) → get_or (held s) 0 t ≡ t → open_refusal m' s.settings ≡ None → Between m' s.settings (view s) → Stands m' s → length (held s) ≤ length (between count (length list) list)
        → Comes m' (turn m' s.settings (view s) t) (between count (length list) list) part k u)
        → Empties n r u (put_mid count (length list - count) list part) (count + k)
    empties_more n r m' s u list part count k f same terms some e within long turns =
        let g = start.settings in
        let first = first_of (held s) some in
        let t = first.0 in
        let lent = between count (length list) list in
        let turns' = subst
        (λ x. (t : Held) → get_or (held s) 0 t ≡ t → open_refusal x s.settings ≡ None → Between x s.settings (view s) → Stands x s → length (held s) ≤ length lent → Comes x (turn x s.settings (view s) t) lent part k u) same turns in
        let comes = turns' t first.2
        (subst (λ x. open_refusal m x ≡ None) (sym terms.settings) f.taken)
        (subst (λ x. Between m x (view s)) (sym terms.settings) e.drains.between) e.stands (omega (arith, e.drains.room, length-between list count (length list))) in
        let comes' : Comes m (turn m g (view s) t) lent part k u = subst (λ x. Comes m (turn m x (view s) t) lent part k u) terms.settings comes in
        record {
          drains = drains_more m g n r (view start) before (view s) (view u) list part count k t (omega (arith, (lawful m g f.taken).crowd)) e.drains within first.1 comes'.holds.state comes'.writes;
          stands = comes'.holds.stands;
        }

    pub empties_end : (n r : ℕ) (s : Stream D) (list : List Line) (count : ℕ) → n ≡ length (held start) → (r ≡ 0) ⊎ (held s ≡ []) → Empties n r s list count → Comes m (outcome_of (drain m start.settings (length (held start)) (view start))) before list count s
    empties_end n r s list count e left x =
        let g = start.settings in
        let none : ((drain m g r (view s)).lines ≡ []) × ((drain m g r (view s)).after ≡ view s) =
        ⊎_elim (λ z. (ap (λ k. (drain m g k (view s)).lines) z, ap (λ k. (drain m g k (view s)).after) z)) (λ z. drain_empty m g r (view s) z) left in
        let d = drains_end m g n r (view start) before (view s) list count x.drains none in
        subst (λ k. Comes m (outcome_of (drain m g k (view start))) before list count s) e (record { holds = record { state = d.0; stands = x.stands }; writes = d.1 })
