-- The neighbours of a seed, and the rounds that make parts, for the functions inside. Assumes nothing.
use Rattle.std.specs.Prelude.{◌≡◌, ℕ, cond, not, ◌&&◌, List, [], ◌∷◌, map, length, Some, filter}
use Rattle.domain.specs.Meaning.{Meaning}
use Rattle.keeper.specs.declared.Rank.{Rank}
use Rattle.rules.specs.declared.Entry.{Entry}
use Rattle.rules.specs.Choosing.{listed}
use Rattle.rules.specs.Clusters.{owner, owners, size, cost}
use Rattle.rules.specs.Split.{cut}
use Rattle.split.specs.declared.faces.Face.{Face}
use Rattle.split.specs.declared.near.Neighbour.{Neighbour}
use Rattle.split.specs.Faces.{earliest, face, owner_of, lacks_part}

-- distance, then position
abbrev pub rank_of : Neighbour → Rank
rank_of n = record { first = n.distance; second = n.position }

-- stands in each free place of a keeper
abbrev pub no_neighbour : Neighbour
no_neighbour = record { distance = 4294967295; position = 4294967295; owner = 0 }

-- who stands behind e, as seen from the seed
abbrev pub neighbour : Meaning → Entry → Entry → Neighbour
neighbour m seed e = record { distance = cost m (seed ∷ e ∷ []); position = e.position; owner = owner e }

abbrev pub names : List Neighbour → List ℕ
names ns = map (λ n. n.owner) ns

-- what stands for the owners without a part
abbrev pub remaining : List Face → List Entry
remaining fs = map (λ f. f.stand_in) (filter lacks_part fs)

-- without the seed
abbrev pub others_than : Entry → List Entry → List Entry
others_than seed es = filter (λ e. not (listed (owner e) (owner seed ∷ []))) es

-- gets that part, if listed and without one
abbrev pub joined : List ℕ → ℕ → Face → Face
joined ws j f = cond (lacks_part f && listed (owner_of f) ws) (record { stand_in = f.stand_in; part = Some j }) f

-- the owners stand beside the parts that the rules make of the records, so many, and those that remain are left over
pub record Cuts (m : Meaning) (k : ℕ) (es : List Entry) (fs : List Face) (made : ℕ) : Type 0 where
  pub faces : fs ≡ map (face (cut m k es (size es) (owners es)).made) (earliest es)
  pub count : made ≡ length (cut m k es (size es) (owners es)).made
  pub left : map owner (remaining fs) ≡ (cut m k es (size es) (owners es)).left
