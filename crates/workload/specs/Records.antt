-- Records drawn from a source that holds x. Assumes nothing.
use Rattle.std.specs.Prelude.{◌≡◌, ℕ, ◌+◌, ◌*◌, ◌/◌, ◌%◌, ◌<◌, ◌≤◌, min, Bool, cond, List, [], ◌∷◌, length, replicate, ℤ, pos, ◌-ℤ◌, ◌==◌, nat_lt, slice_index}
use Rattle.release.specs.declared.Record.{Record}
use Rattle.workload.specs.declared.source.Workload.{Workload}
use Rattle.workload.specs.declared.source.Workload.TheVariants.{Even, Wide, Phased as InPhases}
use Rattle.workload.specs.Draws.{drawn, ahead}

-- one of 200 owners, and a reading from -10,000 to 10,000
abbrev pub owner_of : ℕ → ℕ
owner_of v = 1 + v

abbrev pub reading_of : ℕ → ℤ
reading_of v = pos v -ℤ pos 10000

-- a value below each size, for up to six
pub record Values (x : ℕ) (sizes : List ℕ) (vs : List ℕ) : Type 0 where
  pub values : (k : ℕ) → k < min (length sizes) 6 → slice_index vs k ≡ drawn x (k + 1) (slice_index sizes k)
  pub unused : (k : ℕ) → min (length sizes) 6 ≤ k → slice_index vs k ≡ 0

-- the owner is drawn first, then the values, then the reading
pub record Drawn (x : ℕ) (sizes : List ℕ) (r : Record) : Type 0 where
  pub owner : r.owner ≡ owner_of (drawn x 1 200)
  pub values : Values (ahead 1 x) sizes r.values
  pub reading : r.reading ≡ reading_of (drawn x (min (length sizes) 6 + 2) 20001)

-- seven of eight records stand at one of five places, the others anywhere
abbrev pub crowded : ℕ → Bool
crowded x = nat_lt (drawn x 1 8) 7

abbrev pub phased_place : ℕ → List ℕ
phased_place x =
    cond (crowded x) (20 * drawn x 2 5) (drawn x 2 101) ∷ cond (crowded x) 2 (drawn x 3 8) ∷ 0 ∷ 0 ∷ 0 ∷ 0 ∷ []

abbrev pub phased_draws : ℕ → ℕ
phased_draws x = cond (crowded x) 2 3

-- of the record behind the first p: in every second phase of 512 the owner is 1
pub record Phased (p x : ℕ) (r : Record) : Type 0 where
  pub owner : r.owner ≡ cond (p / 512 % 2 == 1) 1 (owner_of (drawn x 1 200))
  pub values : r.values ≡ phased_place (ahead 1 x)
  pub reading : r.reading ≡ reading_of (drawn x (phased_draws (ahead 1 x) + 2) 20001)

-- the record of a workload behind the first p, and how many numbers are drawn for it
abbrev pub Made : Workload → ℕ → ℕ → Record → Type 0
Made Even p x r = Drawn x (101 ∷ 8 ∷ []) r
Made Wide p x r = Drawn x (replicate 6 1001) r
Made InPhases p x r = Phased p x r

abbrev pub draws_of : Workload → ℕ → ℕ
draws_of Even x = 4
draws_of Wide x = 8
draws_of InPhases x = phased_draws (ahead 1 x) + 2
