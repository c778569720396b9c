-- The parts of a cluster, told by the part of each member. Assumes nothing.
use Rattle.std.specs.Prelude.{◌≡◌, ℕ, ◌<◌, Bool, false, ◌&&◌, List, map, length, filter, Some, None, Option, IsSomeAnd, ◌==◌, nat_le}
use Rattle.std.specs.List.{range_with_len, AllByRecursion}
use Rattle.domain.specs.Meaning.{Meaning}
use Rattle.rules.specs.declared.Entry.{Entry}
use Rattle.rules.specs.declared.Held.{Held}
use Rattle.rules.specs.Clusters.{box_of, cost}
use Rattle.rules.specs.Split.{parts}
use Rattle.split.specs.declared.Member.{Member}
use Rattle.split.specs.declared.Part.{Part}

-- the record as a member of that part, or of none
abbrev pub of_part : Option ℕ → Entry → Member
of_part o e = record { entry = e; part = o }

-- the members' records
abbrev pub entries : List Member → List Entry
entries ms = map (λ x. x.entry) ms

-- the place is that of part j
abbrev pub says : ℕ → Option ℕ → Bool
says j (Some i) = i == j
says j None = false

-- the records of the members of part j
abbrev pub marked : ℕ → List Member → List Entry
marked j ms = entries (filter (λ x. says j x.part) ms)

-- what is told of a part's records
abbrev pub part_of : Meaning → List Entry → Part
part_of m es = record { bounds = box_of m es; loss = cost m es }

-- few enough held records, and a crowd that a stream may have
abbrev pub can_part : List Held → ℕ → Bool
can_part hs k = nat_le (length hs) 256 && (nat_le 2 k && nat_le k 32)

-- members and boxes are those of the parts of a cluster's records
pub record Parted (m : Meaning) (k : ℕ) (es : List Entry) (ms : List Member) (boxes : List Part) : Type 0 where
  -- each record once and in order, and each is of one of the parts
  pub whole : entries ms ≡ es
  pub within : AllByRecursion (λ x. IsSomeAnd x.part (λ j. j < length boxes)) ms
  -- in order of making, the records of each part, their box and its loss
  pub records : map (λ j. marked j ms) (range_with_len 0 (length boxes)) ≡ parts m k es
  pub told : boxes ≡ map (part_of m) (parts m k es)
