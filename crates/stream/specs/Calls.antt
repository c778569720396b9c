-- What a call answers, and how a run goes on by it. Assumes nothing.
use Rattle.std.specs.Prelude.{◌≡◌, ℕ, ◌≤◌, List, [], ◌∷◌, length, take, drop, Some, None, Ok, Err, Option, Result}
use Rattle.domain.specs.Meaning.{Meaning}
use Rattle.release.specs.declared.Line.{Line}
use Rattle.release.specs.declared.Settings.{Settings}
use Rattle.rules.specs.declared.refusals.Refusal.{Refusal}
use Rattle.rules.specs.Runs.{Call, Answer, wrote, refused, Exchange, History}
use Rattle.rules.specs.Promise.{Promise}
use Rattle.rules.specs.Refusals.{open_refusal}
use Rattle.stream.specs.declared.faults.OpenFault.{OpenFault}
use Rattle.stream.specs.declared.faults.OpenFault.TheVariants.{Refused, Memory}
use Rattle.stream.specs.declared.stream.Stream.{Stream}
use Rattle.stream.specs.Views.{view, Leads}

-- the refusal in an answer, if it is one
abbrev pub refusal_of : Result ℕ Refusal → Option Refusal
refusal_of (Ok n) = None
refusal_of (Err e) = Some e

-- a call that is not refused tells how many lines it wrote, and they begin the list
abbrev pub answer : Result ℕ Refusal → List Line → Answer
answer (Ok n) list = wrote (take n list)
answer (Err e) list = refused e

-- later places keep their contents, and a refusal writes nothing
abbrev pub KeepsRest : Result ℕ Refusal → List Line → List Line → Type 0
KeepsRest (Ok n) before after = (n ≤ length before) × (drop n after ≡ drop n before)
KeepsRest (Err e) before after = after ≡ before

-- the run goes on by this call with this answer, leads to the stream that then is, and keeps the promise
pub record GoesOn {D : Type 0} (m : Meaning) (h : History) (c : Call) (r : Result ℕ Refusal) (before after : List Line) (s : Stream D) : Type 0 where
  pub exchange : Exchange
  pub asked : exchange.asked ≡ c
  pub got : exchange.got ≡ answer r after
  pub leads : Leads m (exchange ∷ h) s
  pub promise : Promise m s.settings (exchange ∷ h) (view s)
  pub rest : KeepsRest r before after

-- a stream before the first call
pub record Opened {D : Type 0} (m : Meaning) (d : D) (g : Settings) (s : Stream D) : Type 0 where
  pub domain : s.domain ≡ d
  pub settings : s.settings ≡ g
  pub leads : Leads m [] s
  pub promise : Promise m g [] (view s)

-- opening answers a stream, or the first reason that there is against it; or memory was wanting where there was no reason
abbrev pub Opens : {D : Type 0} → Meaning → D → Settings → Result (Stream D) OpenFault → Type 0
Opens m d g (Ok s) = Opened m d g s
Opens m d g (Err (Refused e)) = open_refusal m g ≡ Some e
Opens m d g (Err Memory) = open_refusal m g ≡ None
