-- What a read past the end of a list would give.
use Rattle.std.proofs.Common.{[], pos, None}
use Rattle.rules.specs.declared.Entry.{Entry}
use Rattle.rules.specs.declared.Held.{Held}
use Rattle.split.specs.declared.Member.{Member}
use Rattle.split.specs.declared.Part.{Part}
use Rattle.split.specs.declared.faces.Face.{Face}

abbrev pub no_entry : Entry
no_entry = record { position = 0; fed = record { owner = 0; values = []; reading = pos 0 } }

abbrev pub no_held : Held
no_held = record { entry = no_entry; label = 0 }

abbrev pub no_member : Member
no_member = record { entry = no_entry; part = None }

abbrev pub no_face : Face
no_face = record { stand_in = no_entry; part = None }

abbrev pub no_part : Part
no_part = record { bounds = []; loss = 0 }
