-- The owners of a cluster beside their parts, for the functions inside. Assumes nothing.
use Rattle.std.specs.Prelude.{ℕ, suc, Bool, cond, not, List, [], ◌∷◌, is_some, Some, None, filter, Option, ◌==◌}
use Rattle.std.specs.Option.{option_map}
use Rattle.rules.specs.declared.Entry.{Entry}
use Rattle.rules.specs.Choosing.{listed}
use Rattle.rules.specs.Clusters.{owner}
use Rattle.split.specs.declared.Member.{Member}
use Rattle.split.specs.declared.faces.Face.{Face}
use Rattle.split.specs.Parted.{of_part}

-- each owner's earliest record
abbrev pub earliest : List Entry → List Entry
earliest [] = []
earliest (e ∷ es) = e ∷ filter (λ x. not (owner x == owner e)) (earliest es)

-- the place of the first part, of lists of owners, that has the owner
abbrev pub place_in : List (List ℕ) → ℕ → Option ℕ
place_in [] w = None
place_in (p ∷ ps) w = cond (listed w p) (Some 0) (option_map suc (place_in ps w))

-- an owner beside these parts
abbrev pub face : List (List ℕ) → Entry → Face
face ps e = record { stand_in = e; part = place_in ps (owner e) }

abbrev pub owner_of : Face → ℕ
owner_of f = owner f.stand_in

abbrev pub lacks_part : Face → Bool
lacks_part f = not (is_some f.part)

-- the place of the part of the first that is that owner
abbrev pub place_among : List Face → ℕ → Option ℕ
place_among [] w = None
place_among (f ∷ fs) w = cond (owner_of f == w) f.part (place_among fs w)

-- a member, of its owner's part
abbrev pub placed : List Face → Member → Member
placed fs x = of_part (place_among fs (owner x.entry)) x.entry
