-- What a splitter tells. Assumes nothing.
use Rattle.std.specs.Prelude.{List, vec_items}
use Rattle.split.specs.declared.Member.{Member}
use Rattle.split.specs.declared.Part.{Part}
use Rattle.split.specs.declared.splitter.Splitter.{Splitter}

-- the members of the cluster, each with the place of its part
abbrev pub members_in : Splitter → List Member
members_in s = vec_items s.members

-- the parts, in order of making
abbrev pub parts_in : Splitter → List Part
parts_in s = vec_items s.parts
