-- The second part of the promise, for every run: each box covers what is written under it and names a crowd.
use Rattle.std.proofs.Common.{◌≡◌, ℕ, zero, suc, ◌+◌, ◌≤◌, true, ◌⊎◌, List, [], ◌∷◌, ◌++◌, map, length, take, Some, None, fold, Option, sym, refl, ap, ◌∙◌, subst, inl, inr, ⊎_elim, arith}
use Rattle.std.specs.List.{AllByRecursion}
use Rattle.std.proofs.ByRecursion.{All-weaker, All-take, All-push}
use Rattle.std.proofs.lemmas.Bool.{cond_both}
use Rattle.domain.specs.Meaning.{Meaning}
use Rattle.domain.specs.Boxes.{box_loss}
use Rattle.release.specs.declared.Settings.{Settings}
use Rattle.release.specs.declared.Line.{Line}
use Rattle.release.specs.declared.Manner.{Manner}
use Rattle.release.specs.declared.Manner.TheVariants.{Released, Reused, Suppressed}
use Rattle.release.specs.Manners.{manner_number}
use Rattle.rules.specs.declared.Entry.{Entry}
use Rattle.rules.specs.declared.Held.{Held}
use Rattle.rules.specs.declared.refusals.Refusal.{Refusal}
use Rattle.rules.specs.Choosing.{In, head}
use Rattle.rules.specs.Clusters.{Box, entered, size, members, no_box, box_of, covers_entry}
use Rattle.rules.specs.States.{State, Kept, Boxes, crowd, below_mean, kept_rank, offered}
use Rattle.rules.specs.Around.{Fit}
use Rattle.rules.specs.Arrival.{arrive}
use Rattle.rules.specs.Split.{parts}
use Rattle.rules.specs.Release.{line, Output, release_part, release}
use Rattle.rules.specs.Turn.{Rule, large, covered, outnumbered, too_few, joining, rule, grown, applied}
use Rattle.rules.specs.Runs.{Call, feeding, closing, serve, serve_due, drain, shut, close, refusal, judged, History, Run, opened, then}
use Rattle.rules.specs.Promise.{Writes, Boxed, ReleasedBox, accepted, written}
use Rattle.rules.proofs.Totals.{all_in, in_all, in_append, append_in, in_map, map_in, all_in_order}
use Rattle.rules.proofs.Refused.{feeds}
use Rattle.rules.proofs.Parts.{parts_all, parts_large}
use Rattle.rules.proofs.Turns.{Holds, grown_large, grown_holds, members_all}
use Rattle.rules.proofs.Around.{box_covers}
use Rattle.rules.proofs.Wholeness.{Good, good, run_k, due, due_in, next_in, serve_all, arrived_known}
use Rattle.rules.proofs.Fairness.{Says, rule_says}

-- a box of this number and these ranges is known: of the lines so far, which are W, those that release it name k owners
record Known (m : Meaning) (k : ℕ) (A : Entry → Type 0) (W : Line → Type 0) (number : ℕ) (ranges : Box) : Type 0 where
  named : List Entry
  by_lines : AllByRecursion (λ e. A e × W (line e Released number (box_of m named))) named
  only : (q : Line) → W q → q.manner ≡ Released → q.number ≡ number → ((e : Entry) × In named e × Writes q e) × (q.ranges ≡ box_of m named)
  many : k ≤ size named
  least : ranges ≡ box_of m named

record Under (m : Meaning) (k : ℕ) (A : Entry → Type 0) (W : Line → Type 0) (q : Line) : Type 0 where
  box : Known m k A W q.number q.ranges
  whose : Entry
  real : A whose
  writes : Writes q whose
  covered : covers_entry m q.ranges whose ≡ true

pub record Inv (m : Meaning) (k : ℕ) (A : Entry → Type 0) (W : Line → Type 0) (b : Boxes) : Type 0 where
  fresh : (q : Line) → W q → q.manner ≡ Released → q.number ≤ b.made
  lines : (q : Line) → W q → (q.manner ≡ Suppressed → ⊥) → Under m k A W q
  kept : AllByRecursion (λ x. Known m k A W x.number x.ranges) b.kept

-- more accepted records, and other lines that are no release lines of the box
known_more : {m : Meaning} {k : ℕ} {A A' : Entry → Type 0} {W W' : Line → Type 0} {number : ℕ} {ranges : Box} → ((e : Entry) → A e → A' e) → ((q : Line) → W q → W' q) → ((q : Line) → W' q → q.manner ≡ Released → q.number ≡ number → W q) → Known m k A W number ranges → Known m k A' W' number ranges
known_more a w back k = record {
  named = k.named;
  by_lines = All-weaker _ _ (λ e x. (a e x.0, w _ x.1)) k.named k.by_lines;
  only = λ q x r n. k.only q (back q x r n) r n;
  many = k.many;
  least = k.least;
}

under_more : {m : Meaning} {k : ℕ} {A A' : Entry → Type 0} {W W' : Line → Type 0} {q : Line} → ((e : Entry) → A e → A' e) → ((q : Line) → W q → W' q) → ((p : Line) → W' p → p.manner ≡ Released → p.number ≡ q.number → W p) → Under m k A W q → Under m k A' W' q
under_more a w back u = record { box = known_more a w back u.box; whose = u.whose; real = a _ u.real; writes = u.writes; covered = u.covered }

-- the same lines, said otherwise
inv_same : {m : Meaning} {k : ℕ} {A A' : Entry → Type 0} {W W' : Line → Type 0} {b : Boxes} → ((e : Entry) → A e → A' e) → ((q : Line) → W q → W' q) → ((q : Line) → W' q → W q) → Inv m k A W b → Inv m k A' W' b
inv_same a w back i = record {
  fresh = λ q x r. i.fresh q (back q x) r;
  lines = λ q x r. under_more a w (λ p y _ _. back p y) (i.lines q (back q x) r);
  kept = All-weaker _ _ (λ x k. known_more a w (λ p y _ _. back p y) k) _ i.kept;
}

some_named : (k : ℕ) (es : List Entry) → 1 ≤ k → k ≤ size es → (e : Entry) × In es e
some_named k [] a l = absurd (omega (arith, a, l))
some_named k (e ∷ es) a l = (e, inl refl)

known_number : {m : Meaning} {k : ℕ} {A : Entry → Type 0} {W : Line → Type 0} {number made : ℕ} {ranges : Box} → 1 ≤ k → ((q : Line) → W q → q.manner ≡ Released → q.number ≤ made) → Known m k A W number ranges → number ≤ made
known_number {k = k} pos fresh x =
    let e = some_named k x.named pos x.many in
    fresh _ (in_all _ x.named e.0 x.by_lines e.1).1 refl

abbrev Plus : List Line → (Line → Type 0) → Line → Type 0
Plus ls W q = In ls q ⊎ W q

-- one part more
part_inv : (m : Meaning) (g : Settings) (k : ℕ) (A : Entry → Type 0) (W : Line → Type 0) (o : Output) (es : List Entry) → 1 ≤ k → ((e : Entry) → A e → Fit m e) → AllByRecursion A es → k ≤ size es → Inv m k A (Plus o.lines W) o.boxes → Inv m k A (Plus (release_part m g o es).lines W) (release_part m g o es).boxes
part_inv m g k A W o es pos adm a l i = record {
  fresh = λ q x r. ⊎_elim (λ j. subst (λ n. n ≤ number) (new_number q j) (omega arith)) (λ w. let u = i.fresh q w r in omega (arith, u)) (split q x);
  lines = λ q x r. ⊎_elim (λ j. new_under q j) (λ w. let u = i.lines q w r in under_more (λ _ z. z) grow (back q.number (known_number pos i.fresh u.box)) u) (split q x);
  kept = cond_both (below_mean losses (box_loss m b)) (offered m g.rho o.boxes.kept new) o.boxes.kept (AllByRecursion (λ x. Known m k A W' x.number x.ranges))
      (λ _. All-take _ g.rho _ (all_in_order _ (kept_rank m) (o.boxes.kept ++ new ∷ []) (All-push _ o.boxes.kept new old_kept new_known))) (λ _. old_kept);
}
  where
    number : ℕ
    number = o.boxes.made + 1

    b : Box
    b = box_of m es

    new : Kept
    new = record { number = number; ranges = b }

    losses : List ℕ
    losses = take g.mu (box_loss m b ∷ o.boxes.losses)

    fresh_lines : List Line
    fresh_lines = map (λ e. line e Released number b) es

    W' : Line → Type 0
    W' = Plus (o.lines ++ fresh_lines) W

    split : (q : Line) → W' q → In fresh_lines q ⊎ Plus o.lines W q
    split q x = ⊎_elim (λ j. ⊎_elim (λ k. inr (inl k)) inl (in_append o.lines fresh_lines q j)) (λ w. inr (inr w)) x

    grow : (q : Line) → Plus o.lines W q → W' q
    grow q x = ⊎_elim (λ j. inl (append_in o.lines fresh_lines q (inl j))) inr x

    new_number : (q : Line) → In fresh_lines q → number ≡ q.number
    new_number q j = let e = map_in (λ e. line e Released number b) es q j in ap (λ z. z.number) e.2

    back : (n : ℕ) → n ≤ o.boxes.made → (q : Line) → W' q → q.manner ≡ Released → q.number ≡ n → Plus o.lines W q
    back n u q x r e = ⊎_elim (λ j. let f = new_number q j in absurd (omega (arith, e, f, u))) (λ w. w) (split q x)

    new_known : Known m k A W' number b
    new_known = record {
      named = es;
      by_lines = all_in _ es (λ e j. (in_all A es e a j, inl (append_in o.lines fresh_lines _ (inr (in_map (λ e. line e Released number b) es e j)))));
      only = λ q x r n. ⊎_elim (λ j. let e = map_in (λ e. line e Released number b) es q j in ((e.0, e.1, (ap (λ z. z.position) (sym e.2), ap (λ z. z.reading) (sym e.2))), ap (λ z. z.ranges) (sym e.2))) (λ w. let u = i.fresh q w r in absurd (omega (arith, u, n))) (split q x);
      many = l;
      least = refl;
    }

    new_under : (q : Line) → In fresh_lines q → Under m k A W' q
    new_under q j =
        let e = map_in (λ e. line e Released number b) es q j in
        subst (Under m k A W') e.2 (record {
          box = new_known;
          whose = e.0;
          real = in_all A es e.0 a e.1;
          writes = (refl, refl);
          covered = in_all _ es e.0 (box_covers m es (All-weaker A (Fit m) adm es a)) e.1;
        })

    old_kept : AllByRecursion (λ x. Known m k A W' x.number x.ranges) o.boxes.kept
    old_kept = All-weaker _ _ (λ x k. known_more (λ _ z. z) grow (back x.number (known_number pos i.fresh k)) k) o.boxes.kept i.kept

parts_inv : (m : Meaning) (g : Settings) (k : ℕ) (A : Entry → Type 0) (W : Line → Type 0) (ps : List (List Entry)) (o : Output) → 1 ≤ k → ((e : Entry) → A e → Fit m e) → AllByRecursion (AllByRecursion A) ps → AllByRecursion (λ p. k ≤ size p) ps → Inv m k A (Plus o.lines W) o.boxes → Inv m k A (Plus (fold (release_part m g) o ps).lines W) (fold (release_part m g) o ps).boxes
parts_inv m g k A W [] o p adm a l i = i
parts_inv m g k A W (es ∷ ps) o p adm a l i = parts_inv m g k A W ps (release_part m g o es) p adm a.1 l.1 (part_inv m g k A W o es p adm a.0 l.0 i)

release_inv : (m : Meaning) (g : Settings) (A : Entry → Type 0) (W : Line → Type 0) (s : State) (c : ℕ) → 1 ≤ crowd g s → ((e : Entry) → A e → Fit m e) → Holds A s.held → crowd g s ≤ size (members c s.held) → Inv m (crowd g s) A W s.boxes → Inv m (crowd g s) A (Plus (release m g s c).lines W) (release m g s c).after.boxes
release_inv m g A W s c pos adm a l i =
    parts_inv m g (crowd g s) A W (parts m (crowd g s) (members c s.held)) (record { lines = []; boxes = s.boxes }) pos adm
    (parts_all A m (crowd g s) (members c s.held) (members_all A c s.held a))
    (parts_large m (crowd g s) (members c s.held) pos l)
    (inv_same (λ _ z. z) (λ q x. inr x) (λ q x. ⊎_elim absurd (λ w. w) x) i)

pub not_released : (how : Manner) → how ≡ Released → manner_number how ≡ 1
not_released how e = ap manner_number e

-- one line more that releases nothing
single_inv : (m : Meaning) (k : ℕ) (A : Entry → Type 0) (W : Line → Type 0) (b : Boxes) (l : Line) → (l.manner ≡ Released → ⊥) → ((l.manner ≡ Suppressed → ⊥) → Under m k A W l) → Inv m k A W b → Inv m k A (Plus (l ∷ []) W) b
single_inv m k A W b l no' under i = record {
  fresh = λ q x r. i.fresh q (back q x r) r;
  lines = λ q x r. ⊎_elim (λ j. ⊎_elim (λ e. subst (Under m k A (Plus (l ∷ []) W)) e (more l (under (λ z. r (subst (λ y. y.manner ≡ Suppressed) e z))))) absurd j) (λ w. more q (i.lines q w r)) x;
  kept = All-weaker _ _ (λ x k. known_more (λ _ z. z) (λ q w. inr w) (λ p y r _. back p y r) k) b.kept i.kept;
}
  where
    back : (q : Line) → Plus (l ∷ []) W q → q.manner ≡ Released → W q
    back q x r = ⊎_elim (λ j. ⊎_elim (λ e. absurd (no' (subst (λ y. y.manner ≡ Released) (sym e) r))) absurd j) (λ w. w) x

    more : (q : Line) → Under m k A W q → Under m k A (Plus (l ∷ []) W) q
    more q u = under_more (λ _ z. z) (λ q w. inr w) (λ p y r _. back p y r) u

applied_inv : (m : Meaning) (g : Settings) (A : Entry → Type 0) (W : Line → Type 0) (s : State) (t : Held) (r : Rule) → 1 ≤ crowd g s → ((e : Entry) → A e → Fit m e) → In s.held t → Says m g s t r → Holds A s.held → Inv m (crowd g s) A W s.boxes → Inv m (crowd g s) A (Plus (applied m g s t r).lines W) (applied m g s t r).after.boxes
applied_inv m g A W s t large pos adm j y a i = release_inv m g A W s t.label pos adm a y i
applied_inv m g A W s t (covered b) pos adm j y a i =
    single_inv m (crowd g s) A W s.boxes (line t.entry Reused b.number b.ranges) (λ e. omega (arith, not_released Reused e))
    (λ _. record { box = in_all _ s.boxes.kept b i.kept y.0; whose = t.entry; real = in_all (λ (h : Held). A h.entry) s.held t a j; writes = (refl, refl); covered = y.1 }) i
applied_inv m g A W s t outnumbered pos adm j y a i = single_inv m (crowd g s) A W s.boxes (line t.entry Suppressed 0 no_box) (λ e. omega (arith, not_released Suppressed e)) (λ z. absurd (z refl)) i
applied_inv m g A W s t too_few pos adm j y a i = single_inv m (crowd g s) A W s.boxes (line t.entry Suppressed 0 no_box) (λ e. omega (arith, not_released Suppressed e)) (λ z. absurd (z refl)) i
applied_inv m g A W s t joining pos adm j y a i =
    release_inv m g A W (grown m g s t.label) t.label pos adm (grown_holds A m g s t.label a) (grown_large m g s t.label y) i

serve_inv : (m : Meaning) (g : Settings) (A : Entry → Type 0) (W : Line → Type 0) (s : State) (o : Option Held) → 1 ≤ crowd g s → ((e : Entry) → A e → Fit m e) → Holds A s.held → ((t : Held) → o ≡ Some t → In s.held t) → Inv m (crowd g s) A W s.boxes → Inv m (crowd g s) A (Plus (serve m g s o).lines W) (serve m g s o).after.boxes
serve_inv m g A W s None pos adm a f i = inv_same (λ _ z. z) (λ q x. inr x) (λ q x. ⊎_elim absurd (λ w. w) x) i
serve_inv m g A W s (Some t) pos adm a f i = applied_inv m g A W s t (rule m g s t) pos adm (f t refl) (rule_says m g s t) a i

drain_inv : (m : Meaning) (g : Settings) (A : Entry → Type 0) (n : ℕ) (W : Line → Type 0) (s : State) → 1 ≤ crowd g s → ((e : Entry) → A e → Fit m e) → Holds A s.held → Inv m (crowd g s) A W s.boxes → Inv m (crowd g s) A (Plus (drain m g n s).lines W) (drain m g n s).after.boxes
drain_inv m g A zero W s pos adm a i = inv_same (λ _ z. z) (λ q x. inr x) (λ q x. ⊎_elim absurd (λ w. w) x) i
drain_inv m g A (suc n) W s pos adm a i =
    let o = serve m g s (head s.held) in
    let rest = drain m g n o.after in
    inv_same (λ _ z. z)
    (λ q x. ⊎_elim (λ j. inl (append_in o.lines rest.lines q (inr j))) (λ y. ⊎_elim (λ j. inl (append_in o.lines rest.lines q (inl j))) inr y) x)
    (λ q x. ⊎_elim (λ j. ⊎_elim (λ k. inr (inl k)) inl (in_append o.lines rest.lines q j)) (λ y. inr (inr y)) x)
    (drain_inv m g A n (Plus o.lines W) o.after pos adm (serve_all A m g s (head s.held) (next_in s) a).0 (serve_inv m g A W s (head s.held) pos adm a (next_in s) i))

-- ---- runs

pub record Sound (m : Meaning) (g : Settings) (h : History) (s : State) : Type 0 where
  pub inv : Inv m (crowd g s) (In (accepted h)) (In (written h)) s.boxes
  pub fit : AllByRecursion (Fit m) (accepted h)

judged_sound : (m : Meaning) (g : Settings) (h : History) (s : State) (c : Call) (v : Option Refusal) → refusal m s c ≡ v → 1 ≤ crowd g s → Good g h s → Sound m g h s → Sound m g ((judged m g s c v).exchange ∷ h) (judged m g s c v).after
judged_sound m g h s (feeding r room) (Some x) e pos i t = record { inv = t.inv; fit = t.fit }
judged_sound m g h s (closing room) (Some x) e pos i t = record { inv = t.inv; fit = t.fit }
judged_sound m g h s (feeding r room) None e pos i t =
    let s' = arrive m g s (entered (s.accepted + 1) r) in
    let es = entered (length (accepted h) + 1) r ∷ accepted h in
    let fit : AllByRecursion (Fit m) es = ((feeds m s r room e).values, t.fit) in
    let after = serve_inv m g (In es) (In (written h)) s' (due g s') pos (λ e j. in_all (Fit m) es e fit j) (arrived_known m g h s r i) (due_in g s') (inv_same (λ _ j. inr j) (λ _ z. z) (λ _ z. z) t.inv) in
    record { inv = inv_same (λ _ z. z) (λ l y. append_in (serve_due m g s').lines (written h) l y) (λ l y. in_append (serve_due m g s').lines (written h) l y) after; fit = fit }
judged_sound m g h s (closing room) None e pos i t =
    let after = drain_inv m g (In (accepted h)) (length s.held) (In (written h)) (shut s) pos (λ e j. in_all (Fit m) (accepted h) e t.fit j) i.known t.inv in
    record { inv = inv_same (λ _ z. z) (λ l y. append_in (close m g s).lines (written h) l y) (λ l y. in_append (close m g s).lines (written h) l y) after; fit = t.fit }

pub sound : {m : Meaning} {g : Settings} {h : History} {s : State} → Run m g h s → Sound m g h s
sound (opened e) = record { inv = record { fresh = λ q x r. absurd x; lines = λ q x r. absurd x; kept = tt }; fit = tt }
sound {m} {g} (then {h = h} {s = s} r c) = judged_sound m g h s c (refusal m s c) refl (run_k r) (good r) (sound r)

known_box : (m : Meaning) (k : ℕ) (h : History) (number : ℕ) (ranges : Box) → Known m k (In (accepted h)) (In (written h)) number ranges → ReleasedBox m k h number ranges
known_box m k h number ranges x = record {
  named = x.named;
  by_lines = All-weaker _ _ (λ e y. (y.0, (line e Released number (box_of m x.named), record { so_far = y.1; released = refl; same_number = refl; same_ranges = sym x.least }, (refl, refl)))) x.named x.by_lines;
  only = λ q y. (x.only q y.so_far y.released y.same_number).0;
  many = x.many;
  least = x.least;
  alone = λ q y r n. (x.only q y r n).1 ∙ sym x.least;
}

pub boxed : {m : Meaning} {g : Settings} {h : History} {s : State} → Run m g h s → AllByRecursion (λ l. (l.manner ≡ Suppressed → ⊥) → Boxed m (crowd g s) h l) (written h)
boxed {m} {g} {h} {s} r = all_in _ (written h) (λ l i x.
    let u = (sound r).inv.lines l i x in
    record { whose = u.whose; accepts = u.real; writes = u.writes; covered = u.covered; box = known_box m (crowd g s) h l.number l.ranges u.box })

-- each kept box was released, and names a crowd
pub kept_boxes : {m : Meaning} {g : Settings} {h : History} {s : State} → Run m g h s → AllByRecursion (λ b. ReleasedBox m (crowd g s) h b.number b.ranges) s.boxes.kept
kept_boxes {m} {g} {h} {s} r = All-weaker _ _ (λ b x. known_box m (crowd g s) h b.number b.ranges x) s.boxes.kept (sound r).inv.kept
