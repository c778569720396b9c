-- Turns for the lowest held position, one by one.
use Rattle.std.proofs.Common.{◌≡◌, ℕ, zero, suc, ◌+◌, ◌-◌, ◌≤◌, List, [], ◌++◌, length, Some, None, sym, refl, ap, ◌∙◌, subst, arith}
use Rattle.std.specs.List.{between}
use Rattle.std.proofs.lemmas.List.{append-nil, append_assoc}
use Rattle.domain.specs.Meaning.{Meaning}
use Rattle.release.specs.declared.Settings.{Settings}
use Rattle.release.specs.declared.Line.{Line}
use Rattle.rules.specs.declared.Held.{Held}
use Rattle.rules.specs.Choosing.{head}
use Rattle.rules.specs.States.{State}
use Rattle.rules.specs.Turn.{turn}
use Rattle.rules.specs.Runs.{Served, serve, followed, drain}
use Rattle.rules.specs.Facts.{Between}
use Rattle.rules.proofs.Between.{turn_goes}
use Rattle.rules.proofs.Wholeness.{next_in}
use Rattle.stream.specs.Writing.{Writes}
use Rattle.stream.proofs.Writing.{writes_none, writes_more}
use borrow.Rule.Slice.PartMut.{put_mid}

module _ (m : Meaning) (g : Settings) where
  -- n rounds of a stream that holds nothing
  pub drain_empty : (n : ℕ) (s : State) → s.held ≡ [] → ((drain m g n s).lines ≡ []) × ((drain m g n s).after ≡ s)
  drain_empty zero s e = (refl, refl)
  drain_empty (suc n) s e =
      let ih = drain_empty n s e in
      let step : drain m g (suc n) s ≡ followed (serve m g s None) (drain m g n) = ap (λ o. followed (serve m g s o) (drain m g n)) (ap head e) in
      (ap (λ (o : Served). o.lines) step ∙ ih.0, ap (λ (o : Served). o.after) step ∙ ih.1)

  drain_turn : (n : ℕ) (s : State) (t : Held) → head s.held ≡ Some t → drain m g (suc n) s ≡ followed (serve m g s (Some t)) (drain m g n)
  drain_turn n s t e = ap (λ o. followed (serve m g s o) (drain m g n)) e

  -- r of n rounds from the state `start` are left: what was written, and that what is to come gives the rest
  pub record Drains (n r : ℕ) (start : State) (before : List Line) (s : State) (list : List Line) (count : ℕ) : Type 0 where
    pub written : List Line
    pub lines : written ++ (drain m g r s).lines ≡ (drain m g n start).lines
    pub after : (drain m g r s).after ≡ (drain m g n start).after
    pub writes : Writes written before list count
    pub between : Between m g s
    pub room : count + length s.held ≤ length before

  pub drains_none : (start : State) (before : List Line) (n : ℕ) → Between m g start → length start.held ≤ length before → Drains n n start before start before 0
  drains_none start before n b l = record { written = []; lines = refl; after = refl; writes = writes_none before; between = b; room = omega arith }

  pub drains_more : (n r : ℕ) (start : State) (before : List Line) (s s' : State) (list part : List Line) (count k : ℕ) (t : Held) → 1 ≤ g.k → Drains n (suc r) start before s list count → count ≤ length list
      → head s.held ≡ Some t → s' ≡ (turn m g s t).after → Writes (turn m g s t).lines (between count (length list) list) part k → Drains n r start before s' (put_mid count (length list - count) list part) (count + k)
  drains_more n r start before s s' list part count k t crowd d within e a w =
      let o = turn m g s t in
      let ls = d.written in
      let goes = turn_goes m g s t crowd d.between (next_in s t e) in
      let step = drain_turn r s t e in
      record {
        written = ls ++ o.lines;
        lines = append_assoc ls o.lines (drain m g r s').lines ∙ ap (λ x. ls ++ (o.lines ++ (drain m g r x).lines)) a ∙ ap (λ x. ls ++ x) (sym (ap (λ (v : Served). v.lines) step)) ∙ d.lines;
        after = ap (λ x. (drain m g r x).after) a ∙ sym (ap (λ (v : Served). v.after) step) ∙ d.after;
        writes = writes_more ls before list count within d.writes o.lines part k w;
        between = subst (Between m g) (sym a) goes.between;
        room = omega (arith, w.counts, d.room, goes.lines, ap (λ (x : State). length x.held) a);
      }

  -- the rounds that are left change nothing
  pub drains_end : (n r : ℕ) (start : State) (before : List Line) (s : State) (list : List Line) (count : ℕ) → Drains n r start before s list count → ((drain m g r s).lines ≡ []) × ((drain m g r s).after ≡ s)
      → (s ≡ (drain m g n start).after) × Writes (drain m g n start).lines before list count
  drains_end n r start before s list count d e =
      (sym e.1 ∙ d.after, subst (λ ls. Writes ls before list count) (sym (append-nil d.written) ∙ ap (λ x. d.written ++ x) (sym e.0) ∙ d.lines) d.writes)
