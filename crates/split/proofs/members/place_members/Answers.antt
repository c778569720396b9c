use Rattle.std.proofs.Common.{◌<◌, length, get_or, set, ap, ◌∙◌, arith}
use Rattle.std.proofs.lemmas.List.Edits.{map_over_more}
use Rattle.std.proofs.lemmas.List.{get_or_default}
use Rattle.split.specs.Faces.{placed}
use Rattle.split.specs.Parted.{of_part}
use Rattle.split.proofs.Blanks.{no_member}
use Rattle.split.proofs.members.place_members.Goals as goal

pub loop-member-preserved : goal.loop-member-preserved
loop-member-preserved c =
    let ms = c.loop-member.members in
    let i = c.loop-member.member-index in
    let x = get_or ms i no_member in
    let l : i < length c.args.members.now = c.loop-member-test.true in
    let m : i < length ms = omega arith in
    ap (λ o. set ms i (of_part o x.entry)) c.place_of-member.ensures
    ∙ map_over_more (placed c.args.faces.now) c.args.members.now ms i x l c.loop-member.invariant (get_or_default ms i no_member x m)
