use Rattle.std.proofs.Common.{◌+◌, ◌≤◌, map, length, take, sym, ◌∙◌, subst, arith}
use Rattle.std.proofs.lemmas.List.Edits.{length-between}
use Rattle.split.specs.Parted.{marked}
use Rattle.stream.specs.Writing.{released, Writes}
use Rattle.stream.proofs.Releasing.{eq_says, part_takes, marked_passes}
use Rattle.stream.proofs.lines.write_part.Goals.{then-eq, else-eq}
use Rattle.stream.proofs.lines.write_part.Goals as goal

pub loop-member-preserved : goal.loop-member-preserved
loop-member-preserved c =
    let ms = c.args.members.now in
    let i = c.loop-member.member-index in
    let l = c.loop-member-test.true in
    let part = c.args.part in
    let list = c.loop-member.list in
    let n = c.loop-member.n in
    let line = released c.args.number c.args.ranges.now in
    let inv = c.loop-member.invariant in
    let room : n ≤ length list = omega arith in
    elim c.if-eq.branch [
      | then-eq w ↦ record {
        fits = omega (arith, w.n-is, w.put-n.ensures.count, length-between list n (length list));
        written = λ enough.
            let made = part_takes part ms i _ l c.args.number c.args.ranges.now (sym c.eq.ensures ∙ w.if-eq.true) c.args.list.now list n room (inv.written enough) enough _ w.put-n.new.list w.put-n.result w.line_of-line.ensures w.put-n.ensures.list w.put-n.ensures.count in
            subst (λ k. Writes (map line (marked part (take (i + 1) ms))) c.args.list.now c.if-eq.list k) (sym w.n-is)
            (subst (λ ls. Writes (map line (marked part (take (i + 1) ms))) c.args.list.now ls (n + w.put-n.result)) (sym w.list-is) made);
      }
      | else-eq w ↦ record {
        fits = omega (arith, w.n-is, inv.fits);
        written = λ enough.
            subst (λ es. Writes (map line es) c.args.list.now c.if-eq.list c.if-eq.n) (sym (marked_passes part ms i _ l (sym (eq_says _ part) ∙ sym c.eq.ensures ∙ w.if-eq.false)))
            (subst (λ k. Writes (map line (marked part (take i ms))) c.args.list.now c.if-eq.list k) (sym w.n-is)
            (subst (λ ls. Writes (map line (marked part (take i ms))) c.args.list.now ls n) (sym w.list-is) (inv.written enough)));
      }
    ]
