-- The third part of the promise, for every run: each suppression is due.
use Rattle.std.proofs.Common.{◌≡◌, ℕ, zero, suc, ◌+◌, ◌*◌, ◌<◌, ◌≤◌, Bool, true, false, List, [], ◌∷◌, ◌++◌, map, length, Some, None, fold, filter, Option, sym, refl, ap, ◌∙◌, inl, inr, ⊎_elim, arith}
use Rattle.std.specs.List.{AllByRecursion}
use Rattle.std.proofs.ByRecursion.{All-append, All-map, All-weaker}
use Rattle.std.proofs.lemmas.Bool.{eqb-true, leb-true, leb-false, ltb-true, ltb-false}
use Rattle.domain.specs.Meaning.{Meaning}
use Rattle.release.specs.declared.Settings.{Settings}
use Rattle.release.specs.declared.Line.{Line}
use Rattle.release.specs.declared.Manner.{Manner}
use Rattle.release.specs.declared.Manner.TheVariants.{Released, Reused, Suppressed}
use Rattle.rules.specs.declared.Entry.{Entry}
use Rattle.rules.specs.declared.Held.{Held}
use Rattle.rules.specs.declared.refusals.Refusal.{Refusal}
use Rattle.rules.specs.Choosing.{In, head}
use Rattle.rules.specs.Clusters.{entered, size, records, members, clusters, covers_entry, box_of}
use Rattle.rules.specs.States.{State, Kept, crowd, deadline, is_due}
use Rattle.rules.specs.Arrival.{arrive}
use Rattle.rules.specs.Split.{parts}
use Rattle.rules.specs.Release.{line, Output, release_part, release}
use Rattle.rules.specs.Turn.{Rule, large, covered, outnumbered, too_few, joining, is_large, cover, larger, is_outnumbered, are_too_few, first_rule, rule, grown, applied, turn}
use Rattle.rules.specs.Runs.{Call, feeding, closing, Turn, serve, serve_due, drain, shut, close, refusal, judged, History, Run, opened, then, lines_of}
use Rattle.rules.specs.Promise.{Writes, NoCrowd, Due, Fair, accepted}
use Rattle.rules.proofs.Totals.{Picked, chosen_is, head_is, append_in}
use Rattle.rules.proofs.Refused.{First, first_from}
use Rattle.rules.proofs.Wholeness.{good, due, due_first}
use Rattle.release.specs.Manners.{manner_number}

-- what the rule that fits says
abbrev pub Says : Meaning → Settings → State → Held → Rule → Type 0
Says m g s t large = crowd g s ≤ size (members t.label s.held)
Says m g s t (covered b) = In s.boxes.kept b × (covers_entry m b.ranges t.entry ≡ true)
Says m g s t outnumbered = (size (members t.label s.held) < crowd g s) × AllByRecursion (λ b. covers_entry m b.ranges t.entry ≡ false) s.boxes.kept × (length (clusters s.held) < 2 * larger t.label s.held)
Says m g s t too_few = (size (members t.label s.held) < crowd g s) × AllByRecursion (λ b. covers_entry m b.ranges t.entry ≡ false) s.boxes.kept × (size (records s.held) < crowd g s)
Says m g s t joining = crowd g s ≤ size (records s.held)

pub rule_says : (m : Meaning) (g : Settings) (s : State) (t : Held) → Says m g s t (rule m g s t)
rule_says m g s t = go (is_large g s t) refl (cover m s t) (first_from q s.boxes.kept (cover m s t) (chosen_is (filter q s.boxes.kept))) (is_outnumbered s t) refl (are_too_few g s) refl
  where
    q : Kept → Bool
    q b = covers_entry m b.ranges t.entry

    go : (b : Bool) → is_large g s t ≡ b → (o : Option Kept) → First (λ b. covers_entry m b.ranges t.entry) s.boxes.kept o → (c : Bool) → is_outnumbered s t ≡ c → (d : Bool) → are_too_few g s ≡ d → Says m g s t (first_rule b o c d)
    go true e o f c e' d e'' = leb-true _ _ e
    go false e (Some x) f c e' d e'' = f
    go false e None f true e' d e'' = (leb-false _ _ e, f, ltb-true _ _ e')
    go false e None f false e' true e'' = (leb-false _ _ e, f, ltb-true _ _ e'')
    go false e None f false e' false e'' = ltb-false _ _ e''

pub not_suppressed : (how : Manner) → how ≡ Suppressed → manner_number how ≡ 3
not_suppressed how e = ap manner_number e

-- a suppression that its turn explains
pub record Late (m : Meaning) (g : Settings) (ts : List Turn) (l : Line) : Type 0 where
  turn : Turn
  its : In ts turn
  own : Writes l turn.who.entry
  held : In turn.before.held turn.who
  small : size (members turn.who.label turn.before.held) < crowd g turn.before
  bare : AllByRecursion (λ b. covers_entry m b.ranges turn.who.entry ≡ false) turn.before.boxes.kept
  why : NoCrowd g turn.before turn.who

abbrev Explained : Meaning → Settings → List Turn → List Line → Type 0
Explained m g ts ls = AllByRecursion (λ l. l.manner ≡ Suppressed → Late m g ts l) ls

released_explained : (m : Meaning) (g : Settings) (ts : List Turn) (ps : List (List Entry)) (o : Output) → Explained m g ts o.lines → Explained m g ts (fold (release_part m g) o ps).lines
released_explained m g ts [] o a = a
released_explained m g ts (p ∷ ps) o a = released_explained m g ts ps (release_part m g o p) (All-append _ o.lines (map (λ e. line e Released (o.boxes.made + 1) (box_of m p)) p) a (All-map _ (λ e. line e Released (o.boxes.made + 1) (box_of m p)) p (each p)))
  where
    each : (es : List Entry) → AllByRecursion (λ e. Released ≡ Suppressed → Late m g ts (line e Released (o.boxes.made + 1) (box_of m p))) es
    each [] = tt
    each (e ∷ es) = ((λ x. absurd (omega (arith, not_suppressed Released x))), each es)

release_explained : (m : Meaning) (g : Settings) (ts : List Turn) (s : State) (c : ℕ) → Explained m g ts (release m g s c).lines
release_explained m g ts s c = released_explained m g ts (parts m (crowd g s) (members c s.held)) (record { lines = []; boxes = s.boxes }) tt

applied_explained : (m : Meaning) (g : Settings) (s : State) (t : Held) (r : Rule) → In s.held t → Says m g s t r → Explained m g (record { who = t; before = s } ∷ []) (applied m g s t r).lines
applied_explained m g s t large i a = release_explained m g _ s t.label
applied_explained m g s t (covered b) i a = ((λ x. absurd (omega (arith, not_suppressed Reused x))), tt)
applied_explained m g s t outnumbered i a = (λ _. record { turn = record { who = t; before = s }; its = inl refl; own = (refl, refl); held = i; small = a.0; bare = a.1; why = inr a.2 }, tt)
applied_explained m g s t too_few i a = (λ _. record { turn = record { who = t; before = s }; its = inl refl; own = (refl, refl); held = i; small = a.0; bare = a.1; why = inl a.2 }, tt)
applied_explained m g s t joining i a = release_explained m g _ (grown m g s t.label) t.label

-- among more turns
more_turns : (m : Meaning) (g : Settings) (ts us : List Turn) (ls : List Line) → ((x : Turn) → In ts x → In us x) → Explained m g ts ls → Explained m g us ls
more_turns m g ts us ls k a = All-weaker _ _ (λ l f e. let w = f e in record { turn = w.turn; its = k w.turn w.its; own = w.own; held = w.held; small = w.small; bare = w.bare; why = w.why }) ls a

serve_explained : (m : Meaning) (g : Settings) (s : State) (o : Option Held) → Picked s.held o → Explained m g (serve m g s o).turns (serve m g s o).lines
serve_explained m g s None f = tt
serve_explained m g s (Some t) f = applied_explained m g s t (rule m g s t) f (rule_says m g s t)

drain_explained : (m : Meaning) (g : Settings) (n : ℕ) (s : State) → Explained m g (drain m g n s).turns (drain m g n s).lines
drain_explained m g zero s = tt
drain_explained m g (suc n) s =
    let o = serve m g s (head s.held) in
    let rest = drain m g n o.after in
    All-append _ o.lines rest.lines
    (more_turns m g o.turns (o.turns ++ rest.turns) o.lines (λ x i. append_in o.turns rest.turns x (inl i)) (serve_explained m g s (head s.held) (head_is s.held)))
    (more_turns m g rest.turns (o.turns ++ rest.turns) rest.lines (λ x i. append_in o.turns rest.turns x (inr i)) (drain_explained m g n o.after))

-- in feeding, its deadline had come
abbrev OnTime : Meaning → Settings → State → List Turn → Line → Type 0
OnTime m g s ts l = (x : Late m g ts l) × (deadline g x.turn.who.entry ≡ s.accepted)

due_explained : (m : Meaning) (g : Settings) (s : State) (o : Option Held) → First (is_due g s) s.held o → AllByRecursion (λ l. l.manner ≡ Suppressed → OnTime m g s (serve m g s o).turns l) (serve m g s o).lines
due_explained m g s None f = tt
due_explained m g s (Some t) f = All-weaker _ _ (λ l w e. let x = w e in (x, own x ∙ eqb-true _ _ f.1)) (turn m g s t).lines (applied_explained m g s t (rule m g s t) f.0 (rule_says m g s t))
  where
    own : {l : Line} (x : Late m g (record { who = t; before = s } ∷ []) l) → deadline g x.turn.who.entry ≡ deadline g t.entry
    own x = ⊎_elim (λ e. ap (λ z. deadline g z.who.entry) (sym e)) absurd x.its

judged_fair : (m : Meaning) (g : Settings) (h : History) (s : State) (c : Call) (v : Option Refusal) → s.accepted ≡ length (accepted h) → AllByRecursion (λ l. l.manner ≡ Suppressed → Due m g (judged m g s c v).exchange h l) (lines_of (judged m g s c v).exchange.got)
judged_fair m g h s c (Some x) e = tt
judged_fair m g h s (feeding r room) None e =
    let s' = arrive m g s (entered (s.accepted + 1) r) in
    All-weaker _ _ (λ l w y. let x = w y in let z = x.0 in record { turn = z.turn; its = z.its; own = z.own; time = inl (r, refl, ap (λ n. n + 1) (sym e) ∙ sym x.1); held = z.held; small = z.small; bare = z.bare; why = z.why }) (serve_due m g s').lines (due_explained m g s' (due g s') (due_first g s'))
judged_fair m g h s (closing room) None e =
    All-weaker _ _ (λ l w y. let z = w y in record { turn = z.turn; its = z.its; own = z.own; time = inr refl; held = z.held; small = z.small; bare = z.bare; why = z.why }) (close m g s).lines (drain_explained m g (length s.held) (shut s))

pub fair : {m : Meaning} {g : Settings} {h : History} {s : State} → Run m g h s → Fair m g h
fair (opened e) = tt
fair {m} {g} (then {h = h} {s = s} r c) = (judged_fair m g h s c (refusal m s c) (good r).tally, fair r)
