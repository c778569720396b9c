-- The opening and the calls' arguments determine a run.
use Rattle.std.proofs.Common.{◌≡◌, List, [], ◌∷◌, Some, None, Option, sym, refl, ap, ◌∙◌}
use Rattle.domain.specs.Meaning.{Meaning}
use Rattle.release.specs.declared.Settings.{Settings}
use Rattle.rules.specs.declared.refusals.Refusal.{Refusal}
use Rattle.rules.specs.States.{State, start}
use Rattle.rules.specs.Refusals.{open_refusal}
use Rattle.rules.specs.Runs.{Call, judged, step, refusal, History, Run, opened, then, calls, Determined}

abbrev after : Meaning → Settings → List Call → State
after m g [] = start
after m g (c ∷ cs) = (step m g (after m g cs) c).after

abbrev told : Meaning → Settings → List Call → History
told m g [] = []
told m g (c ∷ cs) = (step m g (after m g cs) c).exchange ∷ told m g cs

asked_is : (m : Meaning) (g : Settings) (s : State) (c : Call) → (step m g s c).exchange.asked ≡ c
asked_is m g s c = go (refusal m s c)
  where
    go : (v : Option Refusal) → (judged m g s c v).exchange.asked ≡ c
    go (Some e) = refl
    go None = refl

record Is (m : Meaning) (g : Settings) (h : History) (s : State) : Type 0 where
  history : h ≡ told m g (calls h)
  state : s ≡ after m g (calls h)

run_is : {m : Meaning} {g : Settings} {h : History} {s : State} → Run m g h s → Is m g h s
run_is (opened e) = record { history = refl; state = refl }
run_is {m} {g} (then {h = h} {s = s} r c) =
    let i = run_is r in
    let cs = calls h in
    let same : (step m g s c).exchange ∷ h ≡ told m g (c ∷ cs) = ap (λ x. (step m g x c).exchange ∷ h) i.state ∙ ap (λ t. (step m g (after m g cs) c).exchange ∷ t) i.history in
    record {
      history = same ∙ ap (λ x. told m g (x ∷ cs)) (sym (asked_is m g s c));
      state = ap (λ x. (step m g x c).after) i.state ∙ ap (λ x. after m g (x ∷ cs)) (sym (asked_is m g s c));
    }

told_calls : (m : Meaning) (g : Settings) (cs : List Call) → calls (told m g cs) ≡ cs
told_calls m g [] = refl
told_calls m g (c ∷ cs) = ap (λ x. x ∷ calls (told m g cs)) (asked_is m g (after m g cs) c) ∙ ap (λ t. c ∷ t) (told_calls m g cs)

told_run : (m : Meaning) (g : Settings) → open_refusal m g ≡ None → (cs : List Call) → Run m g (told m g cs) (after m g cs)
told_run m g e [] = opened e
told_run m g e (c ∷ cs) = then (told_run m g e cs) c

pub determined : Determined
determined = record {
  some = λ m g e cs. (told m g cs, after m g cs, told_run m g e cs, told_calls m g cs);
  one = λ m g h h' s s' r r' e.
      let i = run_is r in
      let j = run_is r' in
      record { history = i.history ∙ ap (told m g) e ∙ sym j.history; state = i.state ∙ ap (after m g) e ∙ sym j.state };
}
