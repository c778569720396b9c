use Rattle.std.proofs.Common.{◌≡◌, true, ltb, List, vec_items, sym, subst, arith}
use Rattle.std.proofs.lemmas.Bool.{and_from, lt-ltb}
use Rattle.domain.specs.declared.range.Range.{Range}
use Rattle.taxonomy.specs.Groups.{in_tree, well_nested}
use Rattle.taxonomy.proofs.Nesting.{well_nested_push}
use Rattle.taxonomy.proofs.Taxonomy.add.Goals as goal

pub invariant_of-self : goal.invariant_of-self
invariant_of-self c =
    let t = c.args.self.now in
    let x = c.args.group in
    let in' : in_tree t.leaves x ≡ true = and_from (ltb x.low x.high) (ltb x.high t.leaves) (lt-ltb _ _ (omega arith)) (lt-ltb _ _ (omega arith)) in
    let P : List Range → Type 0 = λ gs. well_nested t.leaves gs ≡ true in
    let more = well_nested_push t.leaves (vec_items t.groups) x t.sound in' (sym c.if-not-nests.ensures) in
    record { limits = t.limits; sound = subst P (sym c.push_reserved.ensures.items) more; few = omega arith; room = omega arith }
