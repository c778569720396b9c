use Rattle.std.proofs.Common.{ap, ◌∙◌}
use Rattle.taxonomy.specs.Groups.{among}
use Rattle.taxonomy.proofs.Nesting.{any_among}
use Rattle.taxonomy.proofs.Taxonomy.has_group.Goals as goal

pub returns : goal.returns
returns c = c.contains.ensures.value ∙ any_among c.deref.result.now c.args.a ∙ ap (among c.args.a) c.deref.ensures.value
