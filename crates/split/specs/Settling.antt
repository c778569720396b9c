-- Leftover owners beside the parts made, for the functions inside. Assumes nothing.
use Rattle.std.specs.Prelude.{◌≡◌, ℕ, ◌+◌, ◌-◌, ◌≤◌, cond, List, map, length, Some, ◌==◌, nat_lt}
use Rattle.std.specs.List.{AllByRecursion, IsFirstBest}
use Rattle.domain.specs.Meaning.{Meaning}
use Rattle.domain.specs.Boxes.{box_loss}
use Rattle.rules.specs.declared.Entry.{Entry}
use Rattle.rules.specs.Choosing.{total}
use Rattle.rules.specs.Clusters.{owner, owners, widened}
use Rattle.rules.specs.Promise.{one}
use Rattle.rules.specs.Split.{part}
use Rattle.split.specs.declared.Member.{Member}
use Rattle.split.specs.declared.Part.{Part}
use Rattle.split.specs.Faces.{place_in}
use Rattle.split.specs.Parted.{of_part, part_of}

-- by how much the record widens the part's box
abbrev pub box_growth : Meaning → Entry → Part → ℕ
box_growth m e p = box_loss m (widened m p.bounds e) - p.loss

-- of the parts, the first that grows least stands at that place
abbrev pub FirstLeastGrown : Meaning → Entry → List Part → ℕ → Type 0
FirstLeastGrown m e ps j = IsFirstBest (λ x y. nat_lt (box_growth m e x) (box_growth m e y)) ps (length ps) j

-- the owner's records are of part j, and the others as before
abbrev pub moved : ℕ → ℕ → Member → Member
moved w j x = cond (owner x.entry == w) (of_part (Some j) x.entry) x

-- a record as a member, beside parts of owners
abbrev pub member : List (List ℕ) → Entry → Member
member ps e = of_part (place_in ps (owner e)) e

-- members and boxes are those of the parts, by owners
pub record Beside (m : Meaning) (es : List Entry) (ps : List (List ℕ)) (ms : List Member) (boxes : List Part) : Type 0 where
  pub placed : ms ≡ map (member ps) es
  pub told : boxes ≡ map (λ p. part_of m (part es p)) ps

-- parts that have owners, and owners left over: no owner more often than among the records
pub record ApartIn (es : List Entry) (ps : List (List ℕ)) (ws : List ℕ) : Type 0 where
  pub some : AllByRecursion (λ p. 1 ≤ length p) ps
  pub once : (o : ℕ) → total (λ p. total (one o) p) ps + total (one o) ws ≤ total (one o) (owners es)
