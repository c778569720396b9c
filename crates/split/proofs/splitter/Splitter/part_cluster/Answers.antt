use Rattle.std.proofs.Common.{◌≡◌, ◌*◌, ◌<◌, ◌≤◌, [], ◌∷◌, ◌++◌, None, replicate, vec_items, refl, ap, ◌∙◌, arith}
use Rattle.rules.specs.Clusters.{size, members}
use Rattle.pool.specs.declared.Cluster.{Cluster}
use Rattle.split.specs.declared.Part.{Part}
use Rattle.split.specs.Parted.{entries}
use Rattle.split.specs.Splitters.{members_in, parts_in}
use Rattle.split.proofs.Marked.{entries_of}
use Rattle.split.proofs.Whole.{whole_parted, crowd_at}
use Rattle.split.proofs.splitter.Splitter.part_cluster.Goals as goal

as_part : Cluster → Part
as_part x = record { bounds = x.bounds; loss = x.loss }

pub returns-then-cluster-k : goal.returns-then-cluster-k
unfolding as_part
returns-then-cluster-k g c = λ e.
    let m = g.D.Domain.meaning c.args.d.now in
    let x = c.args.cluster.now in
    let es = members x.label c.args.held.now in
    let few : size es < 2 * c.args.k = omega (arith, ap (λ (z : Cluster). z.size) e, c.if-cluster-k.true) in
    let one : vec_items c.push_reserved.new.self ≡ as_part x ∷ [] = c.push_reserved.ensures.items ∙ ap (λ ps. ps ++ as_part x ∷ []) c.clear.ensures.items in
    whole_parted m c.args.k es _ _ few c.gather_members.ensures.all (one ∙ ap (λ z. as_part z ∷ []) e)

pub returns-else-cluster-k : goal.returns-else-cluster-k
returns-else-cluster-k g c = λ e.
    let m = g.D.Domain.meaning c.args.d.now in
    let es = members c.args.cluster.now.label c.args.held.now in
    let many : 2 * c.args.k ≤ size es = omega (arith, ap (λ (z : Cluster). z.size) e, c.if-cluster-k.false) in
    let inside = ap entries c.gather_members-else-cluster-k.ensures.all ∙ entries_of (λ _. None) es in
    crowd_at m c.args.k _ es (members_in c.split.new.self) (parts_in c.split.new.self) (replicate 31 c.mark-near.result) inside refl c.requires.least_crowd c.requires.largest_crowd many c.split.ensures
