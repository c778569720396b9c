-- How a run goes on by a call, refused or not.
use Rattle.std.proofs.Common.{◌≡◌, [], ◌∷◌, Some, None, subst}
use Rattle.domain.specs.Meaning.{Meaning}
use Rattle.release.specs.declared.Settings.{Settings}
use Rattle.rules.specs.declared.refusals.Refusal.{Refusal}
use Rattle.rules.specs.States.{State}
use Rattle.rules.specs.Runs.{Call, wrote, refused, Exchange, History, refusal, done, judged, Run, then}
use Rattle.rules.specs.Promise.{Promise}
use Rattle.rules.proofs.Wholeness.{whole}
use Rattle.rules.proofs.Boxes.{boxed}
use Rattle.rules.proofs.Fairness.{fair}

pub promise : {m : Meaning} {g : Settings} {h : History} {s : State} → Run m g h s → Promise m g h s
promise r = record { whole = whole r; boxed = boxed r; fair = fair r }

module _ {m : Meaning} {g : Settings} {h : History} {s : State} (c : Call) (run : Run m g h s) where
  abbrev pub done_exchange : Exchange
  done_exchange = record { asked = c; got = wrote (done m g s c).lines; turns = (done m g s c).turns }

  pub run_done : refusal m s c ≡ None → Run m g (done_exchange ∷ h) (done m g s c).after
  run_done e = subst (λ v. Run m g ((judged m g s c v).exchange ∷ h) (judged m g s c v).after) e (then run c)

  abbrev pub refused_exchange : Refusal → Exchange
  refused_exchange x = record { asked = c; got = refused x; turns = [] }

  pub run_refused : (x : Refusal) → refusal m s c ≡ Some x → Run m g (refused_exchange x ∷ h) s
  run_refused x e = subst (λ v. Run m g ((judged m g s c v).exchange ∷ h) (judged m g s c v).after) e (then run c)
