-- A call on a stream that a run leads to.
use Rattle.std.proofs.Common.{◌≡◌, ℕ, zero, suc, ◌+◌, ◌<◌, ◌≤◌, List, [], ◌∷◌, length, get_or, take, drop, Some, None, Ok, Err, vec_items, filter, sym, refl, ap, ◌∙◌, subst, arith}
use Rattle.std.proofs.lemmas.List.{length_push}
use Rattle.domain.specs.Meaning.{Meaning}
use Rattle.release.specs.declared.Settings.{Settings}
use Rattle.release.specs.declared.Record.{Record}
use Rattle.release.specs.declared.Line.{Line}
use Rattle.rules.specs.declared.refusals.Refusal.{Refusal}
use Rattle.rules.specs.declared.Held.{Held}
use Rattle.rules.specs.Choosing.{head}
use Rattle.rules.specs.Clusters.{entered}
use Rattle.rules.specs.States.{State, is_due}
use Rattle.rules.specs.Arrival.{home, arrive}
use Rattle.rules.specs.Facts.{Between}
use Rattle.rules.specs.Refusals.{open_refusal, feed_refusal, close_refusal}
use Rattle.rules.specs.Turn.{turn}
use Rattle.rules.specs.Runs.{Served, Call, feeding, closing, wrote, History, Run, opened, then, refusal, done, serve, serve_due, drain, shut}
use Rattle.rules.proofs.Between.{between_fed, between_closed}
use Rattle.rules.proofs.Refused.{feeds, closes}
use Rattle.stream.specs.declared.stream.Stream.{Stream}
use Rattle.stream.specs.Calls.{GoesOn}
use Rattle.stream.specs.Views.{view, Stands, Leads}
use Rattle.stream.specs.Within.{SameTerms, Holds, Comes, outcome_of}
use Rattle.stream.specs.Writing.{put_front}
use Rattle.stream.proofs.Steps.{promise, done_exchange, run_done, refused_exchange, run_refused}
use Rattle.stream.proofs.Writing.{writes_none, take_put, drop_put}

pub run_open : {m : Meaning} {g : Settings} {h : History} {s : State} → Run m g h s → open_refusal m g ≡ None
run_open (opened e) = e
run_open (then r c) = run_open r

-- ---- how a run goes on

module _ {D : Type 0} (m : Meaning) (s : Stream D) (h : History) (leads : Leads m h s) (c : Call) (before : List Line) where
  pub goes_done : (t : Stream D) (after : List Line) (count : ℕ) → refusal m (view s) c ≡ None → t.settings ≡ s.settings → Comes m (outcome_of (done m s.settings (view s) c)) before after count t → count ≤ length before → GoesOn m h c (Ok count) before after t
  goes_done t after count e same comes fits =
      let g = s.settings in
      let ls = (done m g (view s) c).lines in
      let x = done_exchange c leads.run in
      let w = comes.writes in
      let reached = subst (Run m g (x ∷ h)) (sym comes.holds.state) (run_done c leads.run e) in
      let run = subst (λ y. Run m y (x ∷ h) (view t)) (sym same) reached in
      let took : take count after ≡ ls = ap (take count) w.lines ∙ ap (λ k. take k (put_front ls before)) w.counts ∙ take_put ls before in
      let left : drop count after ≡ drop count before = ap (drop count) w.lines ∙ ap (λ k. drop k (put_front ls before)) w.counts ∙ drop_put ls before ∙ ap (λ k. drop k before) (sym w.counts) in
      record { exchange = x; asked = refl; got = ap wrote (sym took); leads = record { run = run; stands = comes.holds.stands }; promise = promise run; rest = (fits, left) }

  pub goes_refused : (x : Refusal) → refusal m (view s) c ≡ Some x → GoesOn m h c (Err x) before before s
  goes_refused x e =
      let run = run_refused c leads.run x e in
      record { exchange = refused_exchange c leads.run x; asked = refl; got = refl; leads = record { run = run; stands = leads.stands }; promise = promise run; rest = refl }

-- ---- the record that is due

at_place : (hs : List Held) (i : ℕ) → i < length hs → (t : Held) × (head (drop i hs) ≡ Some t) × (get_or hs i t ≡ t)
at_place [] i l = absurd (omega (arith, l))
at_place (h ∷ hs) zero l = (h, refl, refl)
at_place (h ∷ hs) (suc i) l = at_place hs i (omega (arith, l))

module _ {D : Type 0} (m : Meaning) (s : Stream D) (before : List Line) where
  abbrev held : List Held
  held = vec_items s.pool.held

  pub serves_none : Stands m s → None ≡ head (filter (is_due s.settings (view s)) held) → Comes m (outcome_of (serve_due m s.settings (view s))) before before 0 s
  serves_none stands e = subst (λ o. Comes m (outcome_of (serve m s.settings (view s) o)) before before 0 s) e (record { holds = record { state = refl; stands = stands }; writes = writes_none before })

  pub serves_one : (i : ℕ) (after : List Line) (count : ℕ) (u : Stream D) → i < length held → head (drop i held) ≡ head (filter (is_due s.settings (view s)) held)
      → ((t : Held) → get_or held i t ≡ t → Comes m (turn m s.settings (view s) t) before after count u) → Comes m (outcome_of (serve_due m s.settings (view s))) before after count u
  serves_one i after count u l e comes =
      let at = at_place held i l in
      subst (λ o. Comes m (outcome_of (serve m s.settings (view s) o)) before after count u) (sym at.1 ∙ e) (comes at.0 at.2)

-- ---- feeding and closing

module _ {D : Type 0} (m : Meaning) (s : Stream D) (h : History) (leads : Leads m h s) (before after : List Line) (count : ℕ) (fits : count ≤ length before) (u : Stream D) where
  -- what is promised of the turns that a call makes of the stream
  abbrev pub Serving : Meaning → Stream D → Served → Type 0
  Serving m s o = open_refusal m s.settings ≡ None → Between m s.settings (view s) → Stands m s → length (vec_items s.pool.held) ≤ length before → Comes m (outcome_of o) before after count u

  pub fed_goes : (r : Record) (m' : Meaning) (s' : Stream D) → feed_refusal m (view s) r (length before) ≡ None → m' ≡ m → SameTerms s s' → SameTerms s' u
      → Holds m (arrive m s.settings (view s) (entered (s.accepted + 1) r)) s' → Serving m' s' (serve_due m' s'.settings (view s')) → GoesOn m h (feeding r (length before)) (Ok count) before after u
  fed_goes r m' s' e same terms terms' holds f =
      let g = s.settings in
      let run = leads.run in
      let f' : Serving m s' (serve_due m s'.settings (view s')) = subst (λ x. Serving x s' (serve_due x s'.settings (view s'))) same f in
      let one : Held = record { entry = entered (s.accepted + 1) r; label = home m g (view s) (entered (s.accepted + 1) r) } in
      let more = f'
      (subst (λ x. open_refusal m x ≡ None) (sym terms.settings) (run_open run))
      (subst (λ x. Between m x (view s')) (sym terms.settings) (subst (Between m g) (sym holds.state) (between_fed run r (length before) e)))
      holds.stands
      (omega (arith, (feeds m (view s) r (length before) e).space, ap (λ (x : State). length x.held) holds.state, length_push (vec_items s.pool.held) one)) in
      goes_done m s h leads (feeding r (length before)) before u after count e (terms'.settings ∙ terms.settings)
      (subst (λ o. Comes m (outcome_of o) before after count u) (ap (λ x. serve_due m x (view s')) terms.settings ∙ ap (serve_due m g) holds.state) more) fits

  -- the stream, once it is marked as closed
  pub closed_goes : (s' : Stream D) → view s' ≡ shut (view s) → s'.settings ≡ s.settings → u.settings ≡ s.settings → close_refusal (view s) (length before) ≡ None → Stands m s'
      → Serving m s' (drain m s'.settings (length (vec_items s'.pool.held)) (view s')) → GoesOn m h (closing (length before)) (Ok count) before after u
  closed_goes s' shown set set' e stands f =
      let g = s.settings in
      let run = leads.run in
      let held_same : vec_items s'.pool.held ≡ vec_items s.pool.held = ap (λ (x : State). x.held) shown in
      let d = f
      (subst (λ x. open_refusal m x ≡ None) (sym set) (run_open run))
      (subst (λ x. Between m x (view s')) (sym set) (subst (Between m g) (sym shown) (between_closed run)))
      stands
      (omega (arith, ap length held_same, (closes (view s) (length before) e).space)) in
      let told = ap (λ x. drain m x (length (vec_items s'.pool.held)) (view s')) set ∙ ap (λ n. drain m g n (view s')) (ap length held_same) ∙ ap (drain m g (length (vec_items s.pool.held))) shown in
      goes_done m s h leads (closing (length before)) before u after count e set' (subst (λ o. Comes m (outcome_of o) before after count u) told d) fits
