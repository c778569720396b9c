use Rattle.std.proofs.Common.{◌<◌, cond, ◌∷◌, length, get_or, set, Some, sym, ap, ◌∙◌, arith}
use Rattle.std.proofs.lemmas.List.Edits.{map_over_more}
use Rattle.std.proofs.lemmas.List.{get_or_default}
use Rattle.split.specs.declared.faces.Face.{Face}
use Rattle.split.specs.Near.{names, joined}
use Rattle.split.proofs.Blanks.{no_face}
use Rattle.split.proofs.making.join.Goals.{then-joins, else-joins}
use Rattle.split.proofs.making.join.Goals as goal

pub loop-face-preserved : goal.loop-face-preserved
loop-face-preserved c =
    let ws = c.args.seed ∷ names c.args.near.now in
    let j = c.args.part in
    let fs = c.loop-face.faces in
    let i = c.loop-face.face-index in
    let x = get_or fs i no_face in
    let with_part : Face = record { stand_in = x.stand_in; part = Some j } in
    let l : i < length c.args.faces.now = c.loop-face-test.true in
    let m : i < length fs = omega arith in
    let over = map_over_more (joined ws j) c.args.faces.now fs i x l c.loop-face.invariant (get_or_default fs i no_face x m) in
    elim c.if-joins.branch [
      | then-joins w ↦ w.faces-is ∙ ap (set fs i) (ap (λ b. cond b with_part x) (sym w.if-joins.true ∙ c.joins.ensures)) ∙ over
      | else-joins w ↦ w.faces-is ∙ ap (set fs i) (ap (λ b. cond b with_part x) (sym w.if-joins.false ∙ c.joins.ensures)) ∙ over
    ]
