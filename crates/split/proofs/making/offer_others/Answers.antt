use Rattle.std.proofs.Common.{◌≡◌, ◌+◌, cond, [], ◌∷◌, ◌++◌, map, get_or, take, sym, ap, ◌∙◌, subst}
use Rattle.std.proofs.lemmas.List.{map_push, append-nil}
use Rattle.keeper.specs.Keeping.{Keeps}
use Rattle.rules.specs.declared.Entry.{Entry}
use Rattle.split.specs.declared.near.Neighbour.{Neighbour}
use Rattle.split.specs.Near.{rank_of, no_neighbour, neighbour, remaining, others_than}
use Rattle.split.proofs.Blanks.{no_face}
use Rattle.split.proofs.Remaining.{others_more}
use Rattle.split.proofs.making.offer_others.Goals.{then-is_other, else-is_other}
use Rattle.split.proofs.making.offer_others.Goals as goal

pub loop-face-preserved : goal.loop-face-preserved
loop-face-preserved g c =
    let m = g.D.Domain.meaning c.args.d.now in
    let seed = c.args.seed.now in
    let fs = c.args.faces.now in
    let i = c.loop-face.face-index in
    let x = (get_or fs i no_face).stand_in in
    let so = others_than seed (remaining (take i fs)) in
    let nb : Entry → Neighbour = neighbour m seed in
    let given = map nb so in
    let next = map nb (others_than seed (remaining (take (i + 1) fs))) in
    let more = others_more seed fs i no_face c.loop-face-test.true in
    elim c.if-is_other.branch [
      | then-is_other w ↦
          let t = w.offer.ensures.takes (w.offer.ensures.every_item w.seen_from.ensures.near) given c.loop-face.invariant in
          let e : next ≡ given ++ w.seen_from.result ∷ [] =
          ap (map nb) (more ∙ ap (λ b. so ++ cond b (x ∷ []) []) (sym c.is_other.ensures ∙ w.if-is_other.true)) ∙ map_push nb so x ∙ ap (λ y. given ++ y ∷ []) (sym w.seen_from.ensures.value) in
          subst (λ l. Keeps rank_of no_neighbour l next) (sym w.near-is) (subst (Keeps rank_of no_neighbour w.offer.new.places) (sym e) t.keeps)
      | else-is_other w ↦
          let e : next ≡ given = ap (map nb) (more ∙ ap (λ b. so ++ cond b (x ∷ []) []) (sym c.is_other.ensures ∙ w.if-is_other.false) ∙ append-nil so) in
          subst (λ l. Keeps rank_of no_neighbour l next) (sym w.near-is) (subst (Keeps rank_of no_neighbour c.loop-face.near) (sym e) c.loop-face.invariant)
    ]
