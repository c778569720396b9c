use Rattle.std.proofs.Common.{◌≡◌, ◌<◌, List, map, length, Some, sym, ap, ◌∙◌, subst}
use Rattle.keeper.specs.Leasts.{leasts}
use Rattle.rules.specs.Choosing.{head}
use Rattle.split.specs.declared.near.Neighbour.{Neighbour}
use Rattle.split.specs.Near.{rank_of, neighbour, names, remaining, others_than}
use Rattle.split.proofs.Rounds.{joined_fewer_by_one, gathered}
use Rattle.split.proofs.making.gather.Goals as goal

pub returns-in-Some : goal.returns-in-Some
returns-in-Some g c =
    let m = g.D.Domain.meaning c.args.d.now in
    let fs = c.args.faces.now in
    let s = c.in-Some.seed in
    let n = length c.args.near.now in
    let first : head (remaining fs) ≡ Some s = sym c.in-Some.ensures in
    let given : List Neighbour = map (neighbour m s) (others_than s (remaining fs)) in
    let items : c.items.result.now ≡ leasts rank_of n given =
    (c.items.ensures.reads given c.offer_others.ensures.keeps).least ∙ ap (λ i. leasts rank_of i given) c.offer_others.auto.near in
    record {
      fewer = λ _. subst (λ l. length (remaining l) < length (remaining fs)) (sym c.join.ensures) (joined_fewer_by_one (names c.items.result.now) c.args.part fs s first);
      next = λ es ps p e l h. c.join.ensures ∙ gathered m n c.args.part es ps p s fs c.items.result.now e l first items h;
    }
