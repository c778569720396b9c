-- The first part of the promise, for every run: nothing is lost, nothing doubled, nothing late.
use Rattle.std.proofs.Common.{◌≡◌, ℕ, zero, suc, ◌+◌, ◌<◌, ◌≤◌, Bool, true, false, cond, eqb, leb, List, [], ◌∷◌, length, Some, None, filter, Option, sym, refl, ap, ◌∙◌, subst, inl, inr, arith}
use Rattle.std.specs.List.{AllByRecursion}
use Rattle.std.proofs.ByRecursion.{All-append, All-weaker, All-push}
use Rattle.std.proofs.lemmas.Bool.{eqb-true, eqb-false, eq-eqb, ne_eqb, leb-true, leb-false}
use Rattle.domain.specs.Meaning.{Meaning}
use Rattle.release.specs.declared.Settings.{Settings}
use Rattle.release.specs.declared.Record.{Record}
use Rattle.release.specs.declared.Line.{Line}
use Rattle.rules.specs.declared.Entry.{Entry}
use Rattle.rules.specs.declared.Held.{Held}
use Rattle.rules.specs.declared.refusals.Refusal.{Refusal}
use Rattle.rules.specs.Choosing.{In, head}
use Rattle.rules.specs.Clusters.{entered}
use Rattle.rules.specs.States.{State, deadline, is_due}
use Rattle.rules.specs.Arrival.{arrive, home}
use Rattle.rules.specs.Turn.{rule, turn}
use Rattle.rules.specs.Runs.{Call, feeding, closing, wrote, Served, serve, serve_due, drain, shut, close, refusal, judged, History, Run, opened, then}
use Rattle.rules.specs.Promise.{one, held_times, line_times, Written, Whole, accepted, written, is_closed, taken, more_accepted}
use Rattle.rules.proofs.Totals.{true_false, mark, total_append, total_push, total_le, length_total, one_le, in_total, all_in, in_all, Picked, head_is, kept_in}
use Rattle.rules.proofs.Refused.{First, first_from, Lawful, lawful, feeds, some_none}
use Rattle.rules.proofs.Turns.{held_total, line_total, entry_total, Of, Holds, applied_total, applied_own, applied_same, applied_all}

-- each position at most once
abbrev pub Apart : List Held → Type 0
Apart hs = (p : ℕ) → held_times p hs ≤ 1

-- what turns do: each record stays or is written
pub record Moves (s : State) (o : Served) : Type 0 where
  pub sums : (f : ℕ → ℕ) → held_total f o.after.held + line_total f o.lines ≡ held_total f s.held
  pub tally : o.after.accepted ≡ s.accepted
  pub shut : o.after.closed ≡ s.closed

pub serve_moves : (m : Meaning) (g : Settings) (s : State) (o : Option Held) → 1 ≤ g.k → Apart s.held → ((t : Held) → o ≡ Some t → In s.held t) → Moves s (serve m g s o)
serve_moves m g s None k a i = record { sums = λ f. omega arith; tally = refl; shut = refl }
serve_moves m g s (Some t) k a i =
    let same = applied_same m g s t (rule m g s t) in
    record { sums = λ w. applied_total w m g s t (rule m g s t) k (i t refl) (a t.entry.position); tally = same.0; shut = same.1 }

pub serve_all : (P : Entry → Type 0) (m : Meaning) (g : Settings) (s : State) (o : Option Held) → ((t : Held) → o ≡ Some t → In s.held t) → Holds P s.held → Holds P (serve m g s o).after.held × AllByRecursion (Of P) (serve m g s o).lines
serve_all P m g s None i a = (a, tt)
serve_all P m g s (Some t) i a = applied_all P m g s t (rule m g s t) (i t refl) a

-- whose turn it is is held
pub some_same : {X : Type 0} {x y : X} → Some x ≡ Some y → x ≡ y
some_same {X} {x} e = ap un e
  where
    un : Option X → X
    un (Some z) = z
    un None = x

pub picked_in : {X : Type 0} (xs : List X) (o : Option X) → Picked xs o → (x : X) → o ≡ Some x → In xs x
picked_in xs (Some y) i x e = subst (In xs) (some_same e) i
picked_in xs None i x e = absurd (some_none (sym e))

pub next_in : (s : State) (t : Held) → head s.held ≡ Some t → In s.held t
next_in s t e = picked_in s.held (head s.held) (head_is s.held) t e

-- the record that is due
abbrev pub due : Settings → State → Option Held
due g s = head (filter (is_due g s) s.held)

pub due_first : (g : Settings) (s : State) → First (is_due g s) s.held (due g s)
due_first g s = first_from (is_due g s) s.held (due g s) (head_is (filter (is_due g s) s.held))

pub due_in : (g : Settings) (s : State) (t : Held) → due g s ≡ Some t → In s.held t
due_in g s t e = (kept_in (is_due g s) s.held t (picked_in _ (due g s) (head_is (filter (is_due g s) s.held)) t e)).0

-- none that is due stays
serve_soon : (m : Meaning) (g : Settings) (s : State) → 1 ≤ g.k → Apart s.held → (o : Option Held) → First (is_due g s) s.held o
    → AllByRecursion (λ r. s.accepted ≤ deadline g r.entry) s.held → AllByRecursion (λ r. s.accepted < deadline g r.entry) (serve m g s o).after.held
serve_soon m g s k a None f l = all_in _ s.held (λ r i.
    let ne = eqb-false (deadline g r.entry) s.accepted (in_all _ s.held r f i) in
    let le : s.accepted ≤ deadline g r.entry = in_all _ s.held r l i in
    omega (arith, ne, le))
serve_soon m g s k a (Some t) f l =
    let o = turn m g s t in
    let p = t.entry.position in
    let at : p + g.delta ≡ s.accepted = eqb-true _ _ f.1 in
    let gone : held_times p o.after.held ≡ 0 = omega (arith, applied_total (one p) m g s t (rule m g s t) k f.0 (a p), applied_own m g s t (rule m g s t) k f.0, a p) in
    let all = (applied_all (λ e. s.accepted ≤ deadline g e) m g s t (rule m g s t) f.0 l).0 in
    all_in _ o.after.held (λ r i.
    let le : s.accepted ≤ r.entry.position + g.delta = in_all (λ (r : Held). s.accepted ≤ deadline g r.entry) o.after.held r all i in
    let ne : r.entry.position ≡ p → ⊥ = λ e.
    let w : one p r.entry.position ≡ 1 = mark (eq-eqb r.entry.position p e) in
    omega (arith, in_total (λ (r : Held). one p r.entry.position) o.after.held r i, w, gone) in
    omega (arith, le, ne, at))

-- ---- closing: turns until none is held

none_held : (hs : List Held) → length hs ≤ 0 → hs ≡ []
none_held [] l = refl
none_held (h ∷ hs) l = absurd (omega (arith, l))

pub record Drained (s : State) (o : Served) : Type 0 where
  pub moves : Moves s o
  pub empty : o.after.held ≡ []

-- a turn leaves fewer
served_fewer : (m : Meaning) (g : Settings) (s : State) (n : ℕ) → 1 ≤ g.k → Apart s.held → length s.held ≤ suc n → (o : Option Held) → Picked s.held o → length (serve m g s o).after.held ≤ n
served_fewer m g s n k a l None f = omega (arith, f)
served_fewer m g s n k a l (Some t) f =
    let o = turn m g s t in
    let own = applied_own m g s t (rule m g s t) k f in
    let sum = applied_total (λ _. 1) m g s t (rule m g s t) k f (a t.entry.position) in
    omega (arith, sum, own, l, length_total o.after.held, length_total s.held, total_le (λ (l : Line). one t.entry.position l.position) (λ _. 1) (λ l. one_le t.entry.position l.position) o.lines)

pub drained : (m : Meaning) (g : Settings) (n : ℕ) (s : State) → 1 ≤ g.k → Apart s.held → length s.held ≤ n → Drained s (drain m g n s)
drained m g zero s k a l = record { moves = record { sums = λ f. omega arith; tally = refl; shut = refl }; empty = none_held s.held l }
drained m g (suc n) s k a l =
    let o = serve m g s (head s.held) in
    let one' = serve_moves m g s (head s.held) k a (next_in s) in
    let r = drained m g n o.after k (λ p. omega (arith, one'.sums (one p), a p)) (served_fewer m g s n k a l (head s.held) (head_is s.held)) in
    record {
      moves = record {
        sums = λ w. omega (arith, one'.sums w, r.moves.sums w, total_append (λ (l : Line). w l.position) o.lines (drain m g n o.after).lines);
        tally = r.moves.tally ∙ one'.tally;
        shut = r.moves.shut ∙ one'.shut;
      };
      empty = r.empty;
    }

pub drain_all : (P : Entry → Type 0) (m : Meaning) (g : Settings) (n : ℕ) (s : State) → Holds P s.held → AllByRecursion (Of P) (drain m g n s).lines
drain_all P m g zero s a = tt
drain_all P m g (suc n) s a =
    let o = serve m g s (head s.held) in
    let both = serve_all P m g s (head s.held) (next_in s) a in
    All-append (Of P) o.lines (drain m g n o.after).lines both.1 (drain_all P m g n o.after both.0)

-- ---- the invariant of a run

pub record Good (g : Settings) (h : History) (s : State) : Type 0 where
  pub tally : s.accepted ≡ length (accepted h)
  pub shut : s.closed ≡ is_closed h
  pub sums : (f : ℕ → ℕ) → held_total f s.held + line_total f (written h) ≡ entry_total f (accepted h)
  pub soon : AllByRecursion (λ r. s.accepted < deadline g r.entry) s.held
  pub none : s.closed ≡ true → s.held ≡ []
  pub known : Holds (In (accepted h)) s.held
  pub real : AllByRecursion (Of (In (accepted h))) (written h)

-- positions of the accepted records
more_later : (o : Option Record) (es : List Entry) (p : ℕ) → length (more_accepted o es) < p → (length es < p → entry_total (one p) es ≡ 0) → entry_total (one p) (more_accepted o es) ≡ 0
more_later None es p l ih = ih l
more_later (Some r) es p l ih = omega (arith, ih (omega (arith, l)), mark (ne_eqb (length es + 1) p (omega (arith, l))))

later : (h : History) (p : ℕ) → length (accepted h) < p → entry_total (one p) (accepted h) ≡ 0
later [] p l = refl
later (x ∷ h) p l = more_later (taken x.asked x.got) (accepted h) p l (later h p)

more_once : (o : Option Record) (es : List Entry) (p : ℕ) → 1 ≤ p → p ≤ length (more_accepted o es) → (length es < p → entry_total (one p) es ≡ 0) → (p ≤ length es → entry_total (one p) es ≡ 1) → entry_total (one p) (more_accepted o es) ≡ 1
more_once None es p a l out ih = ih l
more_once (Some r) es p a l out ih = go (eqb (length es + 1) p) refl
  where
    go : (b : Bool) → eqb (length es + 1) p ≡ b → cond b 1 0 + entry_total (one p) es ≡ 1
    go true e = let eq = eqb-true (length es + 1) p e in omega (arith, out (omega (arith, eq)))
    go false e = let ne = eqb-false (length es + 1) p e in omega (arith, ih (omega (arith, ne, l)))

exactly : (h : History) (p : ℕ) → 1 ≤ p → p ≤ length (accepted h) → entry_total (one p) (accepted h) ≡ 1
exactly [] p a l = absurd (omega (arith, a, l))
exactly (x ∷ h) p a l = more_once (taken x.asked x.got) (accepted h) p a l (later h p) (exactly h p a)

more_before : (o : Option Record) (es : List Entry) → entry_total (one 0) es ≡ 0 → entry_total (one 0) (more_accepted o es) ≡ 0
more_before None es e = e
more_before (Some r) es e = omega (arith, e, mark (ne_eqb (length es + 1) 0 (λ z. omega (arith, z))))

before : (h : History) → entry_total (one 0) (accepted h) ≡ 0
before [] = refl
before (x ∷ h) = more_before (taken x.asked x.got) (accepted h) (before h)

most : (h : History) (p : ℕ) → entry_total (one p) (accepted h) ≤ 1
most h zero = omega (arith, before h)
most h (suc p) = go (leb (suc p) (length (accepted h))) refl
  where
    go : (b : Bool) → leb (suc p) (length (accepted h)) ≡ b → entry_total (one (suc p)) (accepted h) ≤ 1
    go true e = let l = leb-true (suc p) (length (accepted h)) e in omega (arith, exactly h (suc p) (omega arith) l)
    go false e = let l = leb-false (suc p) (length (accepted h)) e in omega (arith, later h (suc p) l)

abbrev pub Placed : ℕ → Entry → Type 0
Placed n e = (1 ≤ e.position) × (e.position ≤ n)

more_placed : (o : Option Record) (es : List Entry) → AllByRecursion (Placed (length es)) es → AllByRecursion (Placed (length (more_accepted o es))) (more_accepted o es)
more_placed None es a = a
more_placed (Some r) es a = ((omega arith, omega arith), All-weaker (Placed (length es)) (Placed (suc (length es))) (λ e p. (p.0, omega (arith, p.1))) es a)

pub placed : (h : History) → AllByRecursion (Placed (length (accepted h))) (accepted h)
placed [] = tt
placed (x ∷ h) = more_placed (taken x.asked x.got) (accepted h) (placed h)

pub good_apart : (g : Settings) (h : History) (s : State) → Good g h s → Apart s.held
good_apart g h s i p = omega (arith, i.sums (one p), most h p)

-- ---- the calls

-- a record that has arrived, before the turn
pub arrived_known : (m : Meaning) (g : Settings) (h : History) (s : State) (r : Record) → Good g h s → Holds (In (entered (length (accepted h) + 1) r ∷ accepted h)) (arrive m g s (entered (s.accepted + 1) r)).held
arrived_known m g h s r i =
    let e = entered (s.accepted + 1) r in
    let x : Held = record { entry = e; label = home m g s e } in
    let es = entered (length (accepted h) + 1) r ∷ accepted h in
    All-push (λ (z : Held). In es z.entry) s.held x (All-weaker (λ (z : Held). In (accepted h) z.entry) (λ z. In es z.entry) (λ z j. inr j) s.held i.known) (inl (ap (λ n. entered (n + 1) r) (sym i.tally)))

pub arrived_times : (m : Meaning) (g : Settings) (s : State) (e : Entry) (f : ℕ → ℕ) → held_total f (arrive m g s e).held ≡ held_total f s.held + f e.position
arrived_times m g s e f = total_push (λ (z : Held). f z.entry.position) s.held (record { entry = e; label = home m g s e })

pub arrived_apart : (m : Meaning) (g : Settings) (h : History) (s : State) (r : Record) → Good g h s → Apart (arrive m g s (entered (s.accepted + 1) r)).held
arrived_apart m g h s r i p =
    omega (arith, arrived_times m g s (entered (s.accepted + 1) r) (one p), ap (λ n. one p (n + 1)) i.tally, i.sums (one p), most (record { asked = feeding r 0; got = wrote []; turns = [] } ∷ h) p)

fed_good : (m : Meaning) (g : Settings) (h : History) (s : State) (r : Record) (room : ℕ) → 1 ≤ g.k → 1 ≤ g.delta → Good g h s → s.closed ≡ false → Good g ((judged m g s (feeding r room) None).exchange ∷ h) (judged m g s (feeding r room) None).after
fed_good m g h s r room k d i up =
    let e = entered (s.accepted + 1) r in
    let x : Held = record { entry = e; label = home m g s e } in
    let s' = arrive m g s e in
    let es = entered (length (accepted h) + 1) r ∷ accepted h in
    let out = serve_due m g s' in
    let apart = arrived_apart m g h s r i in
    let c = serve_moves m g s' (due g s') k apart (due_in g s') in
    let all = serve_all (In es) m g s' (due g s') (due_in g s') (arrived_known m g h s r i) in
    let near : AllByRecursion (λ z. s'.accepted ≤ deadline g z.entry) s'.held = All-push (λ (z : Held). s.accepted + 1 ≤ deadline g z.entry) s.held x (All-weaker (λ (z : Held). s.accepted < deadline g z.entry) (λ z. s.accepted + 1 ≤ deadline g z.entry) (λ z j. omega (arith, j)) s.held i.soon) (omega (arith, d)) in
    let still = serve_soon m g s' k apart (due g s') (due_first g s') near in
    record {
      tally = c.tally ∙ ap (λ n. n + 1) i.tally ∙ omega arith;
      shut = c.shut ∙ i.shut;
      sums = λ f. omega (arith, c.sums f, arrived_times m g s e f, ap (λ n. f (n + 1)) i.tally, i.sums f, total_append (λ (l : Line). f l.position) out.lines (written h));
      soon = All-weaker (λ (z : Held). s'.accepted < deadline g z.entry) (λ z. out.after.accepted < deadline g z.entry) (λ z j. omega (arith, j, c.tally)) out.after.held still;
      none = λ t. true_false t (c.shut ∙ up);
      known = all.0;
      real = All-append (Of (In es)) out.lines (written h) all.1 (All-weaker (Of (In (accepted h))) (Of (In es)) (λ l w. (w.0, inr w.1, w.2)) (written h) i.real);
    }

closed_good : (m : Meaning) (g : Settings) (h : History) (s : State) (room : ℕ) → 1 ≤ g.k → Good g h s → Good g ((judged m g s (closing room) None).exchange ∷ h) (judged m g s (closing room) None).after
closed_good m g h s room k i =
    let o = drained m g (length s.held) (shut s) k (good_apart g h s i) (omega arith) in
    let out = close m g s in
    record {
      tally = o.moves.tally ∙ i.tally;
      shut = o.moves.shut;
      sums = λ f. omega (arith, o.moves.sums f, i.sums f, total_append (λ (l : Line). f l.position) out.lines (written h));
      soon = subst (λ hs. AllByRecursion (λ r. out.after.accepted < deadline g r.entry) hs) (sym o.empty) tt;
      none = λ _. o.empty;
      known = subst (Holds (In (accepted h))) (sym o.empty) tt;
      real = All-append (Of (In (accepted h))) out.lines (written h) (drain_all (In (accepted h)) m g (length s.held) (shut s) i.known) i.real;
    }

refused_good : (m : Meaning) (g : Settings) (h : History) (s : State) (c : Call) (e : Refusal) → Good g h s → Good g ((judged m g s c (Some e)).exchange ∷ h) s
refused_good m g h s (feeding r room) e i = record { tally = i.tally; shut = i.shut; sums = i.sums; soon = i.soon; none = i.none; known = i.known; real = i.real }
refused_good m g h s (closing room) e i = record { tally = i.tally; shut = i.shut; sums = i.sums; soon = i.soon; none = i.none; known = i.known; real = i.real }

judged_good : (m : Meaning) (g : Settings) (h : History) (s : State) (c : Call) (v : Option Refusal) → refusal m s c ≡ v → 1 ≤ g.k → 1 ≤ g.delta → Good g h s → Good g ((judged m g s c v).exchange ∷ h) (judged m g s c v).after
judged_good m g h s c (Some x) e k d i = refused_good m g h s c x i
judged_good m g h s (feeding r room) None e k d i = fed_good m g h s r room k d i (feeds m s r room e).is_open
judged_good m g h s (closing room) None e k d i = closed_good m g h s room k i

-- the settings of a run are within their limits
pub run_lawful : {m : Meaning} {g : Settings} {h : History} {s : State} → Run m g h s → Lawful g
run_lawful {m} {g} (opened e) = lawful m g e
run_lawful (then r c) = run_lawful r

pub run_k : {m : Meaning} {g : Settings} {h : History} {s : State} → Run m g h s → 1 ≤ g.k
run_k r = let l = run_lawful r in omega (arith, l.crowd)

pub run_delta : {m : Meaning} {g : Settings} {h : History} {s : State} → Run m g h s → 1 ≤ g.delta
run_delta r = let l = run_lawful r in omega (arith, l.crowd, l.delay)

pub good : {m : Meaning} {g : Settings} {h : History} {s : State} → Run m g h s → Good g h s
good (opened e) = record { tally = refl; shut = refl; sums = λ f. refl; soon = tt; none = λ _. refl; known = tt; real = tt }
good {m} {g} (then {h = h} {s = s} r c) = judged_good m g h s c (refusal m s c) refl (run_k r) (run_delta r) (good r)

pub whole : {m : Meaning} {g : Settings} {h : History} {s : State} → Run m g h s → Whole g h s
whole {m} {g} {h} {s} r =
    let i = good r in
    record {
      once = All-weaker (Placed (length (accepted h))) (λ e. held_times e.position s.held + line_times e.position (written h) ≡ 1) (λ e p. i.sums (one e.position) ∙ exactly h e.position p.0 p.1) (accepted h) (placed h);
      soon = All-weaker (λ (z : Held). s.accepted < deadline g z.entry) (λ z. length (accepted h) < deadline g z.entry) (λ z j. omega (arith, j, i.tally)) s.held i.soon;
      last = λ e. i.none (i.shut ∙ e);
      known = i.known;
      real = All-weaker (Of (In (accepted h))) (Written h) (λ l w. record { whose = w.0; accepts = w.1; writes = w.2 }) (written h) i.real;
    }
