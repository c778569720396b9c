-- What holds of a state between the turns of a call: feeding and closing begin with it, and turns keep it.
use Rattle.std.proofs.Common.{◌≡◌, ℕ, zero, suc, ◌+◌, ◌<◌, ◌≤◌, Bool, true, false, cond, not, eqb, List, [], ◌∷◌, length, get_or, Some, None, sym, refl, ap, ◌∙◌, subst, arith}
use Rattle.std.specs.List.{remove, AllByRecursion}
use Rattle.std.proofs.lemmas.List.{length_push, length-map}
use Rattle.std.proofs.ByRecursion.{All-push, All-weaker, All-get_or}
use Rattle.std.proofs.lemmas.Bool.{eq-eqb, ne_eqb, eqb-true}
use Rattle.domain.specs.Meaning.{Meaning}
use Rattle.release.specs.declared.Settings.{Settings}
use Rattle.release.specs.declared.Record.{Record}
use Rattle.release.specs.declared.Line.{Line}
use Rattle.rules.specs.declared.Entry.{Entry}
use Rattle.rules.specs.declared.Held.{Held}
use Rattle.rules.specs.Choosing.{In}
use Rattle.rules.specs.Clusters.{entered}
use Rattle.rules.specs.States.{State, crowd}
use Rattle.rules.specs.Around.{Fit}
use Rattle.rules.specs.Arrival.{home, arrive}
use Rattle.rules.specs.Refusals.{feed_refusal}
use Rattle.rules.specs.Turn.{turn, without, grown}
use Rattle.rules.specs.Runs.{History, Run, shut}
use Rattle.rules.specs.Promise.{accepted, written, held_times}
use Rattle.rules.specs.Facts.{ByPosition, Between, is_suppressed, suppressed_lines}
use Rattle.rules.proofs.Totals.{mark, mark_le, total_le, length_total}
use Rattle.rules.proofs.Refused.{feeds}
use Rattle.rules.proofs.Wholeness.{Apart, some_same, serve_moves, serve_all, good}
use Rattle.rules.proofs.Keeping.{push_position, merged_position, serve_turned}
use Rattle.rules.proofs.Turns.{take_over_keeps, take_over_records, grown_holds}
use Rattle.rules.proofs.Bounds.{positions, facts}

-- ---- positions that ascend are apart

none_above : (p : ℕ) (hs : List Held) → AllByRecursion (λ h. p < h.entry.position) hs → held_times p hs ≡ 0
none_above p [] a = refl
none_above p (h ∷ hs) a = omega (arith, mark (ne_eqb h.entry.position p (λ e. omega (arith, a.0, e))), none_above p hs a.1)

pub by_position_apart : (hs : List Held) → ByPosition hs → Apart hs
by_position_apart [] a p = omega arith
by_position_apart (h ∷ hs) a p = go (eqb h.entry.position p) refl (by_position_apart hs a.1 p)
  where
    go : (b : Bool) → eqb h.entry.position p ≡ b → held_times p hs ≤ 1 → held_times p (h ∷ hs) ≤ 1
    go true e ih = omega (arith, mark e, none_above p hs (All-weaker _ _ (λ x l. omega (arith, l, eqb-true h.entry.position p e)) hs a.0))
    go false e ih = omega (arith, mark e, ih)

-- the record that leaves is the one at its place
kept_all : (t : Held) (hs : List Held) → AllByRecursion (λ h. t.entry.position < h.entry.position) hs → without t hs ≡ hs
kept_all t [] a = refl
kept_all t (h ∷ hs) a = ap (λ b. cond (not b) (h ∷ without t hs) (without t hs)) (ne_eqb h.entry.position t.entry.position (λ e. omega (arith, a.0, e))) ∙ ap (λ l. h ∷ l) (kept_all t hs a.1)

pub removed_without : (hs : List Held) (i : ℕ) (t : Held) → ByPosition hs → i < length hs → get_or hs i t ≡ t → remove hs i ≡ without t hs
removed_without [] i t a l e = absurd (omega (arith, l))
removed_without (h ∷ hs) zero t a l e =
    sym (ap (λ b. cond (not b) (h ∷ without t hs) (without t hs)) (eq-eqb h.entry.position t.entry.position (ap (λ x. x.entry.position) e)) ∙ kept_all t hs (All-weaker _ _ (λ x l. omega (arith, l, ap (λ (x : Held). x.entry.position) e)) hs a.0))
removed_without (h ∷ hs) (suc i) t a l e =
    let up : h.entry.position < (get_or hs i t).entry.position = All-get_or (λ x. h.entry.position < x.entry.position) hs i t (omega (arith, l)) a.0 in
    ap (λ r. h ∷ r) (removed_without hs i t a.1 (omega (arith, l)) e)
    ∙ sym (ap (λ b. cond (not b) (h ∷ without t hs) (without t hs)) (ne_eqb h.entry.position t.entry.position (λ f. omega (arith, up, f, ap (λ (x : Held). x.entry.position) e))))

-- ---- a call begins

some_suppressed : (ls : List Line) → suppressed_lines ls ≤ length ls
some_suppressed ls = omega (arith, total_le (λ (l : Line). cond (is_suppressed l.manner) 1 0) (λ _. 1) (λ l. mark_le (is_suppressed l.manner)) ls, length_total ls)

module _ {m : Meaning} {g : Settings} {h : History} {s : State} (run : Run m g h s) where
  few_suppressed : s.suppressed ≤ s.accepted
  few_suppressed =
      let i = good run in
      omega (arith, (facts run).counted.all_suppressed, some_suppressed (written h), i.tally, i.sums (λ _. 1), length_total (written h), length_total (accepted h))

  pub between_fed : (r : Record) (room : ℕ) → feed_refusal m s r room ≡ None → Between m g (arrive m g s (entered (s.accepted + 1) r))
  between_fed r room e =
      let f = facts run in
      let en : Entry = entered (s.accepted + 1) r in
      let x : Held = record { entry = en; label = home m g s en } in
      record {
        few = omega (arith, length_push s.held x, f.bounded.few_held);
        by_position = push_position s.accepted s.held x (positions (good run)) (omega arith) f.ordered.by_position;
        fit = All-push (λ (h : Held). Fit m h.entry) s.held x f.ordered.fit (feeds m s r room e).values;
        numbers = omega (arith, length_push s.held x, f.bounded.few_held, f.bounded.few_boxes, f.bounded.few_records);
        few_suppressed = omega (arith, length_push s.held x, f.bounded.few_held, few_suppressed, f.bounded.few_records);
      }

  pub between_closed : Between m g (shut s)
  between_closed =
      let f = facts run in
      record {
        few = omega (arith, f.bounded.few_held);
        by_position = f.ordered.by_position;
        fit = f.ordered.fit;
        numbers = omega (arith, f.bounded.few_held, f.bounded.few_boxes, f.bounded.few_records);
        few_suppressed = omega (arith, f.bounded.few_held, few_suppressed, f.bounded.few_records);
      }

-- ---- a turn

-- the state behind a turn, and how many lines it writes
pub record Goes (m : Meaning) (g : Settings) (s : State) (t : Held) : Type 0 where
  pub between : Between m g (turn m g s t).after
  pub lines : length (turn m g s t).after.held + length (turn m g s t).lines ≡ length s.held

pub turn_goes : (m : Meaning) (g : Settings) (s : State) (t : Held) → 1 ≤ g.k → Between m g s → In s.held t → Goes m g s t
turn_goes m g s t k b i =
    let own : (u : Held) → Some t ≡ Some u → In s.held u = λ u e. in_same u (some_same e) in
    let moves = serve_moves m g s (Some t) k (by_position_apart s.held b.by_position) own in
    let turned = serve_turned m g s (Some t) k own in
    let sum : length (turn m g s t).after.held + length (turn m g s t).lines ≡ length s.held = omega (arith, moves.sums (λ _. 1), length_total (turn m g s t).after.held, length_total (turn m g s t).lines, length_total s.held) in
    record {
      between = record {
        few = omega (arith, sum, b.few);
        by_position = turned.order b.by_position;
        fit = (serve_all (Fit m) m g s (Some t) own b.fit).0;
        numbers = omega (arith, sum, turned.made, b.numbers);
        few_suppressed = omega (arith, sum, turned.hidden, some_suppressed (turn m g s t).lines, b.few_suppressed);
      };
      lines = sum;
    }
  where
    in_same : (u : Held) → t ≡ u → In s.held u
    in_same u e = subst (In s.held) e i

-- taking over changes labels alone
pub grown_length : (m : Meaning) (g : Settings) (s : State) (c : ℕ) → length (grown m g s c).held ≡ length s.held
grown_length m g s c =
    sym (length-map (grown m g s c).held (λ (h : Held). h.entry)) ∙ ap length (take_over_records m (crowd g s) (length s.held) c s.held) ∙ length-map s.held (λ (h : Held). h.entry)

pub grown_between : (m : Meaning) (g : Settings) (s : State) (c : ℕ) → Between m g s → Between m g (grown m g s c)
grown_between m g s c b =
    let same = grown_length m g s c in
    record {
      few = omega (arith, same, b.few);
      by_position = take_over_keeps ByPosition m (crowd g s) (length s.held) c (λ hs d x. merged_position c d hs x) s.held b.by_position;
      fit = grown_holds (Fit m) m g s c b.fit;
      numbers = omega (arith, same, b.numbers);
      few_suppressed = omega (arith, same, b.few_suppressed);
    }
