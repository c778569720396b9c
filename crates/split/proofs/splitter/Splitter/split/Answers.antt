use Rattle.std.proofs.Common.{◌≡◌, ◌+◌, [], map, length, sym, ap, ◌∙◌, arith}
use Rattle.std.specs.List.{range_with_len}
use Rattle.std.proofs.lemmas.List.{with_items_is}
use Rattle.std.specs.Vec.{with_items}
use Rattle.split.specs.Faces.{earliest, face, placed}
use Rattle.split.specs.Near.{Cuts}
use Rattle.split.specs.Parted.{entries, marked, part_of}
use Rattle.split.specs.Splitters.{members_in}
use Rattle.split.proofs.Whole.{parts_made, split_parted, parted_at, cuts_at}
use Rattle.split.proofs.splitter.Splitter.split.Goals as goal

pub returns-then-made-gt0 : goal.returns-then-made-gt0
returns-then-made-gt0 g c = λ many.
    let m = g.D.Domain.meaning c.args.d.now in
    let k = length c.args.near.now + 1 in
    let before = members_in c.args.self.now in
    let es = entries before in
    let cut_faces = c.make_parts-made.new.faces in
    let made = c.make_parts-made.result in
    let faces = c.as_slice-then-made-gt0.result.now in
    let ms = c.as_mut_slice-then-made-gt0.result.now in
    let boxes = c.as_mut_slice-then-made-gt0-2.result.now in
    let out = c.settle_remaining.new.members in
    let told = c.settle_remaining.new.parts in
    let refill = with_items_is c.collect.new.faces cut_faces (omega arith) in
    let same : faces ≡ cut_faces = c.as_slice-then-made-gt0.ensures.value ∙ refill in
    let there : c.as_slice-2.result.now ≡ faces = c.as_slice-2.ensures.value ∙ refill ∙ sym same in
    let cuts : Cuts m k es faces made = cuts_at m k es cut_faces faces made same (c.make_parts-made.ensures.cuts es (c.as_mut_slice.ensures.value ∙ c.collect.ensures.all ∙ ap (λ ms. map (face []) (earliest (entries ms))) c.as_slice.ensures.value)) in
    let put = with_items_is c.args.self.now.members c.place_members.new.members (omega arith) in
    let placed_so : ms ≡ map (placed faces) before = c.as_mut_slice-then-made-gt0.ensures.value ∙ put ∙ c.place_members.ensures
    ∙ ap (λ fs. map (placed fs) c.as_mut_slice-2.result.now) there ∙ ap (map (placed faces)) c.as_mut_slice-2.ensures.value in
    let read : c.as_slice-3.result.now ≡ ms = c.as_slice-3.ensures.value ∙ sym c.as_mut_slice-then-made-gt0.ensures.value in
    let told_so : boxes ≡ map (λ j. part_of m (marked j ms)) (range_with_len 0 made) =
    c.as_mut_slice-then-made-gt0-2.ensures.value ∙ c.measure.ensures.all ∙ ap (λ xs. map (λ j. part_of m (marked j xs)) (range_with_len 0 made)) read in
    parted_at m k es out _ told _ (with_items_is (with_items c.args.self.now.members c.place_members.new.members) out (omega arith)) (with_items_is c.measure.new.parts told (omega arith))
    (split_parted m k before (omega arith) faces made ms out boxes told many cuts placed_so told_so c.settle_remaining.ensures)

pub returns-else-made-gt0 : goal.returns-else-made-gt0
returns-else-made-gt0 g c = λ many.
    let m = g.D.Domain.meaning c.args.d.now in
    let k = length c.args.near.now + 1 in
    let es = entries (members_in c.args.self.now) in
    let cuts = c.make_parts-made.ensures.cuts es (c.as_mut_slice.ensures.value ∙ c.collect.ensures.all ∙ ap (λ ms. map (face []) (earliest (entries ms))) c.as_slice.ensures.value) in
    absurd (omega (arith, parts_made m k es (omega arith) many, cuts.count))
