use Rattle.std.proofs.Common.{◌≡◌, sym, ◌∙◌, rules}
use Rattle.taxonomy.specs.Groups.{allowed}
use Rattle.taxonomy.specs.Taxonomy.{leaves_of, groups_of}
use Rattle.taxonomy.specs.TaxonomyFacts.{allowed_nested}
use Rattle.taxonomy.proofs.Taxonomy.allows.Goals as goal

pub returns-else-eq : goal.returns-else-eq
returns-else-eq c =
    let t = c.args.self.now in
    let a = c.args.a in
    let v : c.has_group.result ≡ allowed (leaves_of t) (groups_of t) a = search rules in
    record { value = v; nests = λ e b k. allowed_nested (leaves_of t) (groups_of t) t.sound a b (sym v ∙ e) k }
