-- Which cluster takes a record.
use Rattle.std.proofs.Common.{◌≡◌, ℕ, ◌<◌, ◌≤◌, Bool, true, false, ltb, ◌⊎◌, List, [], ◌∷◌, length, Some, None, Option, refl, inl, inr, arith}
use Rattle.std.proofs.lemmas.Bool.{ltb-true}
use Rattle.domain.specs.Meaning.{Meaning}
use Rattle.release.specs.declared.Settings.{Settings}
use Rattle.rules.specs.declared.Entry.{Entry}
use Rattle.rules.specs.Choosing.{In, minimal}
use Rattle.rules.specs.Clusters.{size, members, clusters, raise}
use Rattle.rules.specs.States.{State}
use Rattle.rules.specs.Arrival.{candidates, fits, fitting, smallest, taker, home}
use Rattle.rules.proofs.Totals.{kept_in, Picked, chosen_is}
use Rattle.rules.proofs.Numbers.{minimal_some}

-- an open cluster takes the record, or there is room for a new one
abbrev pub Housed : Settings → State → Entry → ℕ → Type 0
Housed g s e c = In (clusters s.held) c ⊎ ((c ≡ e.position) × (1 ≤ g.beta → length (clusters s.held) < g.beta))

-- the smallest is one of them
smallest_is : (s : State) (cs : List ℕ) → Picked cs (smallest s cs)
smallest_is s cs = go (smallest s cs) (chosen_is (minimal key cs))
  where
    key : ℕ → ℕ
    key c = size (members c s.held)

    go : (o : Option ℕ) → Picked (minimal (λ c. size (members c s.held)) cs) o → Picked cs o
    go (Some c) i = (kept_in _ cs c i).0
    go None l = minimal_some _ cs l

pub housed : (m : Meaning) (g : Settings) (s : State) (e : Entry) → Housed g s e (home m g s e)
housed m g s e = go (smallest s (fitting m s e)) (smallest_is s (fitting m s e)) (ltb (length (clusters s.held)) g.beta) refl (smallest s (candidates m s e)) (smallest_is s (candidates m s e))
  where
    candidate : (c : ℕ) → In (candidates m s e) c → In (clusters s.held) c
    candidate c i = (kept_in _ (clusters s.held) c i).0

    go : (f : Option ℕ) → Picked (fitting m s e) f → (b : Bool) → ltb (length (clusters s.held)) g.beta ≡ b → (k : Option ℕ) → Picked (candidates m s e) k → Housed g s e (taker f b k e.position)
    go (Some c) i b x k j = inl (candidate c (kept_in (fits m s e) (candidates m s e) c i).0)
    go None i true x k j = inr (refl, λ _. ltb-true _ _ x)
    go None i false x (Some c) j = inl (candidate c j)
    go None i false x None j = inr (refl, λ pos. omega (arith, pos, minimal_some (λ c. raise m (members c s.held) (e ∷ [])) (clusters s.held) j))
