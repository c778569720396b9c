use Rattle.std.proofs.Common.{◌<◌, cond, length, get_or, set, Some, sym, ap, ◌∙◌, arith}
use Rattle.std.proofs.lemmas.Bool.{eq-eqb, ne_eqb}
use Rattle.std.proofs.lemmas.List.Edits.{map_over_more}
use Rattle.std.proofs.lemmas.List.{get_or_default}
use Rattle.split.specs.Parted.{of_part}
use Rattle.split.specs.Settling.{moved}
use Rattle.split.proofs.Blanks.{no_member}
use Rattle.split.proofs.members.move_owner.Goals.{then-member-owner, else-member-owner}
use Rattle.split.proofs.members.move_owner.Goals as goal

pub loop-member-preserved : goal.loop-member-preserved
loop-member-preserved c =
    let j = c.args.part in
    let ms = c.loop-member.members in
    let i = c.loop-member.member-index in
    let x = get_or ms i no_member in
    let l : i < length c.args.members.now = c.loop-member-test.true in
    let m : i < length ms = omega arith in
    let over = map_over_more (moved c.args.owner j) c.args.members.now ms i x l c.loop-member.invariant (get_or_default ms i no_member x m) in
    elim c.if-member-owner.branch [
      | then-member-owner w ↦ w.members-is ∙ ap (λ b. set ms i (cond b (of_part (Some j) x.entry) x)) (sym (eq-eqb _ _ w.if-member-owner.true)) ∙ over
      | else-member-owner w ↦ w.members-is ∙ ap (λ b. set ms i (cond b (of_part (Some j) x.entry) x)) (sym (ne_eqb _ _ w.if-member-owner.false)) ∙ over
    ]
