-- Bounds, orders and counts of every run.
use Rattle.std.proofs.Common.{◌≡◌, ℕ, zero, suc, ◌+◌, ◌-◌, ◌<◌, ◌≤◌, Bool, true, false, cond, ◌⊎◌, List, [], ◌∷◌, ◌++◌, map, length, Some, None, Option, sym, refl, subst, inl, inr, ⊎_elim, arith}
use Rattle.std.specs.List.{range_with_len, AllByRecursion}
use Rattle.std.proofs.lemmas.List.FromFn.{length-range_with_len}
use Rattle.std.proofs.lemmas.List.{length-append}
use Rattle.std.proofs.ByRecursion.{All-weaker, All-push}
use Rattle.std.proofs.lemmas.Bool.{eq-eqb, cases_eq}
use Rattle.domain.specs.Meaning.{Meaning}
use Rattle.release.specs.declared.Settings.{Settings}
use Rattle.release.specs.declared.Line.{Line}
use Rattle.rules.specs.declared.Entry.{Entry}
use Rattle.rules.specs.declared.Held.{Held}
use Rattle.rules.specs.declared.refusals.Refusal.{Refusal}
use Rattle.rules.specs.Choosing.{In, different, listed}
use Rattle.rules.specs.Clusters.{entered, by_age, clusters}
use Rattle.rules.specs.States.{State, deadline}
use Rattle.rules.specs.Around.{Fit}
use Rattle.rules.specs.Arrival.{home, arrive}
use Rattle.rules.specs.Refusals.{most_records}
use Rattle.rules.specs.Runs.{Call, feeding, closing, serve_due, shut, close, refusal, judged, History, Run, opened, then, lines_of}
use Rattle.rules.specs.Promise.{one, accepted, written}
use Rattle.rules.specs.Facts.{ByPosition, suppressed_lines, is_suppressed, more_lines, room_of, Facts}
use Rattle.rules.proofs.Totals.{mark, total_append, total_map, length_in_order, length_total, in_all, all_in, map_in, in_map}
use Rattle.rules.proofs.Numbers.{times, in_listed, listed_in, times_different, fewer, once_listed}
use Rattle.rules.proofs.Homes.{housed}
use Rattle.rules.proofs.Refused.{feeds, closes}
use Rattle.rules.proofs.Choices.{clusters_law}
use Rattle.rules.proofs.Turns.{held_total}
use Rattle.rules.proofs.Wholeness.{Good, good, good_apart, Placed, placed, run_lawful, run_k, due, due_in, serve_moves, drained, arrived_apart, arrived_times}
use Rattle.rules.proofs.Boxes.{sound, kept_boxes}
use Rattle.rules.proofs.Keeping.{labels, OldLabels, BoxesKept, Numbered, Turned, push_position, serve_turned, drain_turned, labels_self}

-- ---- open clusters

clusters_length : (hs : List Held) → length (clusters hs) ≡ length (different (labels hs))
clusters_length hs = length_in_order by_age (different (labels hs))

-- numbers that come from one list, but for one more
different_more : (n : ℕ) (xs ys : List ℕ) → AllByRecursion (λ y. (y ≡ n) ⊎ In xs y) ys → length (different ys) ≤ length (different xs) + 1
different_more n xs ys a = omega (arith, fewer (different ys) (n ∷ different xs) each)
  where
    each : (o : ℕ) → times o (different ys) ≤ one o n + times o (different xs)
    each o = go (listed o ys) refl
      where
        go : (b : Bool) → listed o ys ≡ b → times o (different ys) ≤ one o n + times o (different xs)
        go true e = ⊎_elim
            (λ s. omega (arith, times_different o ys, mark e, mark (eq-eqb n o (sym s))))
            (λ i. omega (arith, times_different o ys, mark e, times_different o xs, mark (in_listed o xs i)))
            (in_all (λ y. (y ≡ n) ⊎ In xs y) ys o a (listed_in o ys e))
        go false e = omega (arith, times_different o ys, mark e)

different_fewer : (xs ys : List ℕ) → AllByRecursion (In xs) ys → length (different ys) ≤ length (different xs)
different_fewer xs ys a = fewer (different ys) (different xs) each
  where
    each : (o : ℕ) → times o (different ys) ≤ times o (different xs)
    each o = go (listed o ys) refl
      where
        go : (b : Bool) → listed o ys ≡ b → times o (different ys) ≤ times o (different xs)
        go true e = omega (arith, times_different o ys, mark e, times_different o xs, mark (in_listed o xs (in_all (In xs) ys o a (listed_in o ys e))))
        go false e = omega (arith, times_different o ys, mark e)

all_labels : (P : ℕ → Type 0) (hs : List Held) → AllByRecursion (λ h. P h.label) hs → AllByRecursion P (labels hs)
all_labels P [] a = tt
all_labels P (h ∷ hs) a = (a.0, all_labels P hs a.1)

clusters_fewer : (hs xs : List Held) → OldLabels hs xs → length (clusters xs) ≤ length (clusters hs)
clusters_fewer hs xs a = omega (arith, clusters_length xs, clusters_length hs, different_fewer (labels hs) (labels xs) (all_labels (In (labels hs)) xs a))

arrived_open : (m : Meaning) (g : Settings) (s : State) (e : Entry) → 1 ≤ g.beta → length (clusters s.held) ≤ g.beta → length (clusters (arrive m g s e).held) ≤ g.beta
arrived_open m g s e pos l = ⊎_elim
    (λ i. let h = (clusters_law s.held).some_held (home m g s e) i in
    omega (arith, l, clusters_fewer s.held (arrive m g s e).held (All-push (λ (z : Held). In (labels s.held) z.label) s.held x (labels_self s.held) (subst (In (labels s.held)) h.2 (in_map (λ (z : Held). z.label) s.held h.0 h.1)))))
    (λ r. omega (
      arith,
      r.1 pos,
      clusters_length (arrive m g s e).held,
      clusters_length s.held,
      different_more (home m g s e) (labels s.held) (labels (arrive m g s e).held)
          (all_labels _ (arrive m g s e).held (All-push (λ (z : Held). (z.label ≡ home m g s e) ⊎ In (labels s.held) z.label) s.held x (All-weaker _ _ (λ z i. inr i) s.held (labels_self s.held)) (inl refl))),
    ))
    (housed m g s e)
  where
    x : Held
    x = record { entry = e; label = home m g s e }

-- ---- held records

counting_times : (p a n : ℕ) → a ≤ p → p < a + n → 1 ≤ times p (range_with_len a n)
counting_times p a zero l u = absurd (omega (arith, l, u))
counting_times p a (suc n) l u = ⊎_elim
    (λ e. omega (arith, mark (eq-eqb a p e)))
    (λ n'. omega (arith, counting_times p (a + 1) n (omega (arith, l, n')) (omega (arith, u))))
    (cases_eq a p)

few : (n d : ℕ) (hs : List Held) → ((p : ℕ) → held_total (one p) hs ≤ 1) → AllByRecursion (λ h. (n < h.entry.position + d) × (h.entry.position ≤ n)) hs → length hs ≤ d
few n d hs once a = omega (arith, fewer ps (range_with_len (n + 1 - d) d) each, length-range_with_len (n + 1 - d) d, total_map (λ _. 1) (λ (h : Held). h.entry.position) hs, length_total ps, length_total hs)
  where
    ps : List ℕ
    ps = map (λ h. h.entry.position) hs

    same : (p : ℕ) → times p (map (λ (h : Held). h.entry.position) hs) ≡ held_total (one p) hs
    same p = total_map (one p) (λ (h : Held). h.entry.position) hs

    each : (p : ℕ) → times p (map (λ (h : Held). h.entry.position) hs) ≤ times p (range_with_len (n + 1 - d) d)
    each p = go (listed p (map (λ (h : Held). h.entry.position) hs)) refl
      where
        go : (b : Bool) → listed p (map (λ (h : Held). h.entry.position) hs) ≡ b → times p (map (λ (h : Held). h.entry.position) hs) ≤ times p (range_with_len (n + 1 - d) d)
        go true e =
            let r = map_in (λ (h : Held). h.entry.position) hs p (listed_in p (map (λ (h : Held). h.entry.position) hs) e) in
            let b = in_all (λ (h : Held). (n < h.entry.position + d) × (h.entry.position ≤ n)) hs r.0 a r.1 in
            let c = counting_times p (n + 1 - d) d (omega (arith, b.0, b.1, r.2)) (omega (arith, b.0, b.1, r.2)) in
            omega (arith, c, same p, once p)
        go false e = omega (arith, same p, once p, once_listed p (map (λ (h : Held). h.entry.position) hs) (omega (arith, same p, once p)), mark e)

-- ---- the invariant of a run

-- of a state behind these lines
record Up (m : Meaning) (g : Settings) (w : List Line) (s : State) : Type 0 where
  few_open : length (clusters s.held) ≤ g.beta
  boxes : BoxesKept m g s.boxes
  hidden : s.suppressed ≡ suppressed_lines w
  made : s.boxes.made ≤ length w
  order : ByPosition s.held
  old : AllByRecursion (λ r. r.label ≤ s.accepted) s.held

turned_up : (m : Meaning) (g : Settings) (w ls : List Line) (s t : State) → Turned m g s ls t → t.accepted ≡ s.accepted → Up m g w s → Up m g (ls ++ w) t
turned_up m g w ls s t x same u = record {
  few_open = omega (arith, u.few_open, clusters_fewer s.held t.held x.old_labels);
  boxes = x.boxes u.boxes;
  hidden = omega (arith, x.hidden, u.hidden, total_append (λ (l : Line). cond (is_suppressed l.manner) 1 0) ls w);
  made = omega (arith, x.made, u.made, length-append ls w);
  order = x.order u.order;
  old = All-weaker _ _ (λ z i. let r = map_in (λ (h : Held). h.label) s.held z.label i in let l = in_all (λ (h : Held). h.label ≤ s.accepted) s.held r.0 u.old r.1 in omega (arith, l, r.2, same)) t.held x.old_labels;
}

pub positions : {g : Settings} {h : History} {s : State} → Good g h s → AllByRecursion (λ r. r.entry.position ≤ s.accepted) s.held
positions {g} {h} {s} i = All-weaker _ _ (λ r j. omega (arith, i.tally, (in_all (Placed (length (accepted h))) (accepted h) r.entry (placed h) j).1)) s.held i.known

home_old : (m : Meaning) (g : Settings) (s : State) (e : Entry) → AllByRecursion (λ r. r.label ≤ s.accepted) s.held → e.position ≡ s.accepted + 1 → home m g s e ≤ s.accepted + 1
home_old m g s e a p = ⊎_elim
    (λ i. let r = (clusters_law s.held).some_held (home m g s e) i in let l = in_all (λ (h : Held). h.label ≤ s.accepted) s.held r.0 a r.1 in omega (arith, l, r.2))
    (λ r. omega (arith, r.0, p))
    (housed m g s e)

arrived_up : (m : Meaning) (g : Settings) (w : List Line) (s : State) (e : Entry) → 1 ≤ g.beta → e.position ≡ s.accepted + 1 → AllByRecursion (λ r. r.entry.position ≤ s.accepted) s.held → Up m g w s → Up m g w (arrive m g s e)
arrived_up m g w s e b p a u =
    let x : Held = record { entry = e; label = home m g s e } in
    record {
      few_open = arrived_open m g s e b u.few_open;
      boxes = u.boxes;
      hidden = u.hidden;
      made = u.made;
      order = push_position s.accepted s.held x a (omega (arith, p)) u.order;
      old = All-push (λ (h : Held). h.label ≤ s.accepted + 1) s.held x (All-weaker (λ (h : Held). h.label ≤ s.accepted) (λ h. h.label ≤ s.accepted + 1) (λ h l. omega (arith, l)) s.held u.old) (home_old m g s e u.old p);
    }

record KeptUp (m : Meaning) (g : Settings) (h : History) (s : State) : Type 0 where
  up : Up m g (written h) s
  most : s.accepted ≤ most_records

judged_up : (m : Meaning) (g : Settings) (h : History) (s : State) (c : Call) (v : Option Refusal) → refusal m s c ≡ v → 1 ≤ g.k → 1 ≤ g.beta → Good g h s → KeptUp m g h s → KeptUp m g ((judged m g s c v).exchange ∷ h) (judged m g s c v).after
judged_up m g h s c (Some x) e k b i u = record { up = u.up; most = u.most }
judged_up m g h s (feeding r room) None e k b i u =
    let en = entered (s.accepted + 1) r in
    let s' = arrive m g s en in
    let out = serve_due m g s' in
    let moves = serve_moves m g s' (due g s') k (arrived_apart m g h s r i) (due_in g s') in
    record {
      up = turned_up m g (written h) out.lines s' out.after (serve_turned m g s' (due g s') k (due_in g s')) moves.tally (arrived_up m g (written h) s en b refl (positions i) u.up);
      most = omega (arith, moves.tally, (feeds m s r room e).some_left);
    }
judged_up m g h s (closing room) None e k b i u =
    let out = close m g s in
    let d = drained m g (length s.held) (shut s) k (good_apart g h s i) (omega arith) in
    let v = u.up in
    let v' : Up m g (written h) (shut s) = record { few_open = v.few_open; boxes = v.boxes; hidden = v.hidden; made = v.made; order = v.order; old = v.old } in
    record {
      up = turned_up m g (written h) out.lines (shut s) out.after (drain_turned m g (length s.held) (shut s) k) d.moves.tally v';
      most = omega (arith, d.moves.tally, u.most);
    }

kept_up : {m : Meaning} {g : Settings} {h : History} {s : State} → Run m g h s → KeptUp m g h s
kept_up (opened e) = record { up = record { few_open = omega arith; boxes = record { few = omega arith; recent = omega arith; by_rank = tt }; hidden = refl; made = omega arith; order = tt; old = tt }; most = omega arith }
kept_up {m} {g} (then {h = h} {s = s} r c) = judged_up m g h s c (refusal m s c) refl (run_k r) (run_lawful r).clusters (good r) (kept_up r)

-- ---- a call's lines

judged_writing : (m : Meaning) (g : Settings) (h : History) (s : State) (c : Call) (v : Option Refusal) → refusal m s c ≡ v → 1 ≤ g.k → Good g h s
    → (length (lines_of (judged m g s c v).exchange.got) ≤ length s.held + more_lines c) × (length (lines_of (judged m g s c v).exchange.got) ≤ room_of c) × AllByRecursion (Numbered s.boxes.made (judged m g s c v).after.boxes.made) (lines_of (judged m g s c v).exchange.got)
judged_writing m g h s c (Some x) e k i = (omega arith, omega arith, tt)
judged_writing m g h s (feeding r room) None e k i =
    let en = entered (s.accepted + 1) r in
    let s' = arrive m g s en in
    let out = serve_due m g s' in
    let moves = serve_moves m g s' (due g s') k (arrived_apart m g h s r i) (due_in g s') in
    let l : length out.lines ≤ length s.held + 1 = omega (arith, moves.sums (λ _. 1), arrived_times m g s en (λ _. 1), length_total out.lines, length_total s.held) in
    (l, omega (arith, l, (feeds m s r room e).space), (serve_turned m g s' (due g s') k (due_in g s')).numbers)
judged_writing m g h s (closing room) None e k i =
    let out = close m g s in
    let d = drained m g (length s.held) (shut s) k (good_apart g h s i) (omega arith) in
    let l : length out.lines ≤ length s.held = omega (arith, d.moves.sums (λ _. 1), length_total out.lines, length_total s.held) in
    (omega (arith, l), omega (arith, l, (closes s room e).space), (drain_turned m g (length s.held) (shut s) k).numbers)

pub facts : {m : Meaning} {g : Settings} {h : History} {s : State} → Run m g h s → Facts m g h s
facts {m} {g} {h} {s} r =
    let i = good r in
    let top = kept_up r in
    let u = top.up in
    let t = sound r in
    record {
      bounded = record {
        few_held = few s.accepted g.delta s.held (good_apart g h s i) (all_in _ s.held (λ z j. (in_all (λ (z : Held). s.accepted < deadline g z.entry) s.held z i.soon j, in_all (λ (z : Held). z.entry.position ≤ s.accepted) s.held z (positions i) j)));
        few_open = u.few_open;
        few_kept = u.boxes.few;
        few_losses = u.boxes.recent;
        few_boxes = omega (arith, u.made, i.tally, i.sums (λ _. 1), length_total (written h), length_total (accepted h));
        few_records = top.most;
      };
      ordered = record {
        by_position = u.order;
        by_rank = u.boxes.by_rank;
        old_labels = u.old;
        fit = All-weaker _ _ (λ z j. in_all (Fit m) (accepted h) z.entry t.fit j) s.held i.known;
      };
      counted = record { all_accepted = i.tally; all_suppressed = u.hidden; all_closed = i.shut };
      kept_released = kept_boxes r;
      writing = λ c. let w = judged_writing m g h s c (refusal m s c) refl (run_k r) i in record { few_lines = w.0; in_room = w.1; new_numbers = w.2 };
    }
