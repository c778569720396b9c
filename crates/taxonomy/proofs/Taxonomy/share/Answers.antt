use Rattle.std.proofs.Common.{ap, ◌∙◌}
use Rattle.domain.specs.Meaning.{loss_of}
use Rattle.taxonomy.specs.Taxonomy.{leaves_of, groups_of}
use Rattle.taxonomy.proofs.Nesting.{share_in_tree}
use Rattle.taxonomy.proofs.Taxonomy.share.Goals as goal

pub returns : goal.returns
returns c =
    let t = c.args.self.now in
    let a = c.args.a in
    λ p. c.loss.ensures ∙ ap (λ m. loss_of m 0 a) c.up_to.ensures ∙ share_in_tree (leaves_of t) (groups_of t) a p
