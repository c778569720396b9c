-- What a turn leaves of bounds, orders and counts.
use Rattle.std.proofs.Common.{◌≡◌, ℕ, zero, suc, ◌+◌, ◌<◌, ◌≤◌, Bool, true, false, cond, not, eqb, List, [], ◌∷◌, ◌++◌, map, length, take, Some, None, fold, filter, Option, refl, ap, ◌∙◌, subst, arith, length-take}
use Rattle.std.specs.List.{AllByRecursion}
use Rattle.std.proofs.lemmas.List.{length-append, length-map}
use Rattle.std.proofs.ByRecursion.{All-append, All-weaker, all_kept_by, All-map, All-push}
use Rattle.std.proofs.lemmas.Bool.{cond_both}
use Rattle.domain.specs.Meaning.{Meaning}
use Rattle.domain.specs.Boxes.{box_loss}
use Rattle.release.specs.declared.Settings.{Settings}
use Rattle.release.specs.declared.Line.{Line}
use Rattle.release.specs.declared.Manner.{Manner}
use Rattle.release.specs.declared.Manner.TheVariants.{Released, Reused, Suppressed}
use Rattle.rules.specs.declared.Entry.{Entry}
use Rattle.rules.specs.declared.Held.{Held}
use Rattle.rules.specs.Choosing.{In, total, head}
use Rattle.rules.specs.Clusters.{size, members, box_of}
use Rattle.rules.specs.States.{State, Kept, Boxes, crowd, below_mean, kept_rank, offered}
use Rattle.rules.specs.Split.{parts}
use Rattle.rules.specs.Release.{line, Output, entered_mean, release_part, release}
use Rattle.rules.specs.Turn.{Rule, large, covered, outnumbered, too_few, joining, moved, merged, grown, applied, rule}
use Rattle.rules.specs.Runs.{serve, drain}
use Rattle.rules.specs.Laws.{ByRank}
use Rattle.rules.specs.Facts.{ByPosition, is_suppressed, suppressed_lines}
use Rattle.rules.proofs.Totals.{total_append, total_map, in_all, all_in, in_map, map_in}
use Rattle.rules.proofs.Ranks.{by_rank_in_order, by_rank_take}
use Rattle.rules.proofs.Parts.{parts_large}
use Rattle.rules.proofs.Turns.{moved_entry, take_over_keeps, grown_large}
use Rattle.rules.proofs.Fairness.{Says, rule_says}
use Rattle.rules.proofs.Wholeness.{next_in}
use Rattle.release.specs.Manners.{manner_number}

-- ---- positions

pub kept_position : (p : Held → Bool) (hs : List Held) → ByPosition hs → ByPosition (filter p hs)
kept_position p [] a = tt
kept_position p (h ∷ hs) a = go (p h) (kept_position p hs a.1)
  where
    go : (b : Bool) → ByPosition (filter p hs) → ByPosition (cond b (h ∷ filter p hs) (filter p hs))
    go true ih = (all_kept_by p (λ x. h.entry.position < x.entry.position) hs a.0, ih)
    go false ih = ih

pub merged_position : (c d : ℕ) (hs : List Held) → ByPosition hs → ByPosition (merged c d hs)
merged_position c d [] a = tt
merged_position c d (h ∷ hs) a = (
  All-map (λ x. (moved c d h).entry.position < x.entry.position) (moved c d) hs
      (All-weaker (λ x. h.entry.position < x.entry.position) (λ x. (moved c d h).entry.position < (moved c d x).entry.position)
      (λ x l. omega (arith, l, ap (λ e. e.position) (moved_entry c d h), ap (λ e. e.position) (moved_entry c d x))) hs a.0),
  merged_position c d hs a.1,
)

pub push_position : (n : ℕ) (hs : List Held) (x : Held) → AllByRecursion (λ h. h.entry.position ≤ n) hs → n < x.entry.position → ByPosition hs → ByPosition (hs ++ x ∷ [])
push_position n [] x b l a = (tt, tt)
push_position n (h ∷ hs) x b l a = (All-push (λ z. h.entry.position < z.entry.position) hs x a.0 (omega (arith, b.0, l)), push_position n hs x b.1 l a.1)

-- ---- labels

abbrev pub labels : List Held → List ℕ
labels hs = map (λ h. h.label) hs

-- no label that was not there
abbrev pub OldLabels : List Held → List Held → Type 0
OldLabels hs xs = AllByRecursion (λ h. In (labels hs) h.label) xs

pub labels_self : (hs : List Held) → OldLabels hs hs
labels_self hs = all_in _ hs (λ h i. in_map (λ (h : Held). h.label) hs h i)

labels_trans : (as' bs cs : List Held) → OldLabels as' bs → OldLabels bs cs → OldLabels as' cs
labels_trans as' bs cs p q = All-weaker _ _ (λ h i. let r = map_in (λ (h : Held). h.label) bs h.label i in subst (In (labels as')) r.2 (in_all (λ (h : Held). In (labels as') h.label) bs r.0 p r.1)) cs q

labels_kept : (p : Held → Bool) (hs : List Held) → OldLabels hs (filter p hs)
labels_kept p hs = all_kept_by p _ hs (labels_self hs)

labels_grown : (m : Meaning) (g : Settings) (s : State) (t : Held) → In s.held t → OldLabels s.held (grown m g s t.label).held
labels_grown m g s t i = take_over_keeps (OldLabels s.held) m (crowd g s) (length s.held) t.label step s.held (labels_self s.held)
  where
    step : (hs : List Held) (d : ℕ) → OldLabels s.held hs → OldLabels s.held (merged t.label d hs)
    step hs d a = All-map _ (moved t.label d) hs (All-weaker _ _ (λ h j. cond_both (eqb h.label d) (record { entry = h.entry; label = t.label }) h (λ (x : Held). In (labels s.held) x.label) (λ _. in_map (λ (h : Held). h.label) s.held t i) (λ _. j)) hs a)

-- ---- boxes

pub record BoxesKept (m : Meaning) (g : Settings) (b : Boxes) : Type 0 where
  pub few : length b.kept ≤ g.rho
  pub recent : length b.losses ≤ g.mu
  pub by_rank : ByRank (kept_rank m) b.kept

entered_kept : (m : Meaning) (g : Settings) (bs : Boxes) (b : Kept) → BoxesKept m g bs → BoxesKept m g (entered_mean m g bs b)
entered_kept m g bs b k =
    let loss = box_loss m b.ranges in
    let losses = take g.mu (loss ∷ bs.losses) in
    record {
      few = cond_both (below_mean losses loss) (offered m g.rho bs.kept b) bs.kept (λ ks. length ks ≤ g.rho) (λ _. short g.rho _) (λ _. k.few);
      recent = short g.mu (loss ∷ bs.losses);
      by_rank = cond_both (below_mean losses loss) (offered m g.rho bs.kept b) bs.kept (ByRank (kept_rank m)) (λ _. by_rank_take (kept_rank m) g.rho _ (by_rank_in_order (kept_rank m) (bs.kept ++ b ∷ []))) (λ _. k.by_rank);
    }
  where
    short : {X : Type 0} (n : ℕ) (xs : List X) → length (take n xs) ≤ n
    short n xs = omega (arith, length-take n xs)

-- ---- release

-- between n and made
abbrev pub Numbered : ℕ → ℕ → Line → Type 0
Numbered n made l = l.manner ≡ Released → (n < l.number) × (l.number ≤ made)

record Out (m : Meaning) (g : Settings) (o p : Output) : Type 0 where
  boxes : BoxesKept m g o.boxes → BoxesKept m g p.boxes
  hidden : suppressed_lines p.lines ≡ suppressed_lines o.lines
  more : o.boxes.made ≤ p.boxes.made
  made : p.boxes.made + length o.lines ≤ o.boxes.made + length p.lines
  numbers : (n : ℕ) → n ≤ o.boxes.made → AllByRecursion (Numbered n o.boxes.made) o.lines → AllByRecursion (Numbered n p.boxes.made) p.lines

part_out : (m : Meaning) (g : Settings) (o : Output) (es : List Entry) → 1 ≤ length es → Out m g o (release_part m g o es)
part_out m g o es l =
    let number = o.boxes.made + 1 in
    let b = box_of m es in
    let new = map (λ e. line e Released number b) es in
    record {
      boxes = entered_kept m g o.boxes (record { number = number; ranges = b });
      hidden = total_append (λ (l : Line). cond (is_suppressed l.manner) 1 0) o.lines new ∙ omega (arith, none es);
      more = omega arith;
      made = omega (arith, l, length-append o.lines new, length-map es (λ e. line e Released number b));
      numbers = λ n u a. All-append _ o.lines new (All-weaker (Numbered n o.boxes.made) (Numbered n number) (λ l f r. let x = f r in (x.0, omega (arith, x.1))) o.lines a) (All-map _ (λ e. line e Released number b) es (each n u es));
    }
  where
    none : (es : List Entry) → suppressed_lines (map (λ e. line e Released (o.boxes.made + 1) (box_of m es)) es) ≡ 0
    none es = total_map (λ (l : Line). cond (is_suppressed l.manner) 1 0) (λ e. line e Released (o.boxes.made + 1) (box_of m es)) es ∙ zeros es
      where
        zeros : (es : List Entry) → total (λ _. 0) es ≡ 0
        zeros [] = refl
        zeros (e ∷ es) = omega (arith, zeros es)

    each : (n : ℕ) → n ≤ o.boxes.made → (xs : List Entry) → AllByRecursion (λ e. Numbered n (o.boxes.made + 1) (line e Released (o.boxes.made + 1) (box_of m es))) xs
    each n u [] = tt
    each n u (x ∷ xs) = ((λ _. (omega (arith, u), omega arith)), each n u xs)

parts_out : (m : Meaning) (g : Settings) (ps : List (List Entry)) (o : Output) → AllByRecursion (λ p. 1 ≤ length p) ps → Out m g o (fold (release_part m g) o ps)
parts_out m g [] o a = record { boxes = λ k. k; hidden = refl; more = omega arith; made = omega arith; numbers = λ n u x. x }
parts_out m g (p ∷ ps) o a =
    let x = part_out m g o p a.0 in
    let y = parts_out m g ps (release_part m g o p) a.1 in
    record {
      boxes = λ k. y.boxes (x.boxes k);
      hidden = y.hidden ∙ x.hidden;
      more = omega (arith, x.more, y.more);
      made = omega (arith, x.made, y.made);
      numbers = λ n u z. y.numbers n (omega (arith, u, x.more)) (x.numbers n u z);
    }

-- ---- turns

-- from s to t, by these lines
pub record Turned (m : Meaning) (g : Settings) (s : State) (ls : List Line) (t : State) : Type 0 where
  pub old_labels : OldLabels s.held t.held
  pub order : ByPosition s.held → ByPosition t.held
  pub boxes : BoxesKept m g s.boxes → BoxesKept m g t.boxes
  pub hidden : t.suppressed ≡ s.suppressed + suppressed_lines ls
  pub more : s.boxes.made ≤ t.boxes.made
  pub made : t.boxes.made ≤ s.boxes.made + length ls
  pub numbers : AllByRecursion (Numbered s.boxes.made t.boxes.made) ls

some_owner : (k : ℕ) (es : List Entry) → 1 ≤ k → k ≤ size es → 1 ≤ length es
some_owner k [] a l = omega (arith, a, l)
some_owner k (e ∷ es) a l = omega arith

release_turned : (m : Meaning) (g : Settings) (s : State) (c : ℕ) → 1 ≤ g.k → crowd g s ≤ size (members c s.held) → Turned m g s (release m g s c).lines (release m g s c).after
release_turned m g s c k l =
    let o = parts_out m g (parts m (crowd g s) (members c s.held)) (record { lines = []; boxes = s.boxes }) (All-weaker _ _ (λ p x. some_owner (crowd g s) p k x) _ (parts_large m (crowd g s) (members c s.held) k l)) in
    record {
      old_labels = labels_kept (λ h. not (eqb h.label c)) s.held;
      order = kept_position (λ h. not (eqb h.label c)) s.held;
      boxes = o.boxes;
      hidden = omega (arith, o.hidden);
      more = o.more;
      made = omega (arith, o.made);
      numbers = o.numbers s.boxes.made (omega arith) tt;
    }

not_first : {P : Type 0} (how : Manner) → (manner' : how ≡ Released) → (manner_number how ≡ 1 → ⊥) → P
not_first how e f = absurd (f (ap manner_number e))

applied_turned : (m : Meaning) (g : Settings) (s : State) (t : Held) (r : Rule) → 1 ≤ g.k → In s.held t → Says m g s t r → Turned m g s (applied m g s t r).lines (applied m g s t r).after
applied_turned m g s t large k i y = release_turned m g s t.label k y
applied_turned m g s t (covered b) k i y = record {
  old_labels = labels_kept _ s.held;
  order = kept_position _ s.held;
  boxes = λ x. x;
  hidden = omega arith;
  more = omega arith;
  made = omega arith;
  numbers = ((λ e. not_first Reused e (λ z. omega (arith, z))), tt);
}
applied_turned m g s t outnumbered k i y = record {
  old_labels = labels_kept _ s.held;
  order = kept_position _ s.held;
  boxes = λ x. x;
  hidden = omega arith;
  more = omega arith;
  made = omega arith;
  numbers = ((λ e. not_first Suppressed e (λ z. omega (arith, z))), tt);
}
applied_turned m g s t too_few k i y = record {
  old_labels = labels_kept _ s.held;
  order = kept_position _ s.held;
  boxes = λ x. x;
  hidden = omega arith;
  more = omega arith;
  made = omega arith;
  numbers = ((λ e. not_first Suppressed e (λ z. omega (arith, z))), tt);
}
applied_turned m g s t joining k i y =
    let s' = grown m g s t.label in
    let o = release_turned m g s' t.label k (grown_large m g s t.label y) in
    record {
      old_labels = labels_trans s.held s'.held _ (labels_grown m g s t i) o.old_labels;
      order = λ a. o.order (take_over_keeps ByPosition m (crowd g s) (length s.held) t.label (λ hs d x. merged_position t.label d hs x) s.held a);
      boxes = o.boxes;
      hidden = o.hidden;
      more = o.more;
      made = o.made;
      numbers = o.numbers;
    }

none_turned : (m : Meaning) (g : Settings) (s : State) → Turned m g s [] s
none_turned m g s = record { old_labels = labels_self s.held; order = λ a. a; boxes = λ b. b; hidden = omega arith; more = omega arith; made = omega arith; numbers = tt }

pub serve_turned : (m : Meaning) (g : Settings) (s : State) (o : Option Held) → 1 ≤ g.k → ((t : Held) → o ≡ Some t → In s.held t) → Turned m g s (serve m g s o).lines (serve m g s o).after
serve_turned m g s None k i = none_turned m g s
serve_turned m g s (Some t) k i = applied_turned m g s t (rule m g s t) k (i t refl) (rule_says m g s t)

both_turned : (m : Meaning) (g : Settings) (s t u : State) (ls ks : List Line) → Turned m g s ls t → Turned m g t ks u → Turned m g s (ls ++ ks) u
both_turned m g s t u ls ks a b = record {
  old_labels = labels_trans s.held t.held u.held a.old_labels b.old_labels;
  order = λ x. b.order (a.order x);
  boxes = λ x. b.boxes (a.boxes x);
  hidden = omega (arith, a.hidden, b.hidden, total_append (λ (l : Line). cond (is_suppressed l.manner) 1 0) ls ks);
  more = omega (arith, a.more, b.more);
  made = omega (arith, a.made, b.made, length-append ls ks);
  numbers = All-append _ ls ks
      (All-weaker (Numbered s.boxes.made t.boxes.made) (Numbered s.boxes.made u.boxes.made) (λ l f r. let x = f r in (x.0, omega (arith, x.1, b.more))) ls a.numbers)
      (All-weaker (Numbered t.boxes.made u.boxes.made) (Numbered s.boxes.made u.boxes.made) (λ l f r. let x = f r in (omega (arith, x.0, a.more), x.1)) ks b.numbers);
}

pub drain_turned : (m : Meaning) (g : Settings) (n : ℕ) (s : State) → 1 ≤ g.k → Turned m g s (drain m g n s).lines (drain m g n s).after
drain_turned m g zero s k = none_turned m g s
drain_turned m g (suc n) s k =
    let o = serve m g s (head s.held) in
    both_turned m g s o.after _ o.lines (drain m g n o.after).lines (serve_turned m g s (head s.held) k (next_in s)) (drain_turned m g n o.after k)
