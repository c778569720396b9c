-- The taxonomy of m leaves with the groups gs. Assumes nothing.
use Rattle.std.specs.Prelude.{◌≡◌, ℕ, true, List, vec_items, nat_lt}
use Rattle.std.proofs.Common.{arith}
use Rattle.domain.specs.declared.range.Range.{Range}
use Rattle.domain.specs.Meaning.{Meaning, Attribute, share}
use Rattle.taxonomy.specs.declared.Taxonomy.{Taxonomy}
use Rattle.taxonomy.specs.Cover.{cover}
use Rattle.taxonomy.specs.Groups.{whole, well_nested, allowed}
use Rattle.taxonomy.specs.TaxonomyFacts.{taxonomy_facts}

-- the leaves and the ranges allowed; a range loses what it loses in the interval from 0 to m - 1
abbrev pub taxonomy_attribute : (m : ℕ) (gs : List Range) → well_nested m gs ≡ true → Attribute
taxonomy_attribute m gs e = record {
  admitted = λ v. nat_lt v m;
  allowed = allowed m gs;
  join = cover m gs;
  loss = share (whole m);
  facts = taxonomy_facts m gs e;
}

-- one attribute
abbrev pub taxonomy_meaning : (m : ℕ) (gs : List Range) → well_nested m gs ≡ true → Meaning
taxonomy_meaning m gs e = record { n = 1; wide = omega arith; attribute = λ _. taxonomy_attribute m gs e }

-- how many leaves, and which groups, in the order of their adding
abbrev pub leaves_of : Taxonomy → ℕ
leaves_of t = t.leaves

abbrev pub groups_of : Taxonomy → List Range
groups_of t = vec_items t.groups

abbrev pub taxonomy_of : Taxonomy → Meaning
taxonomy_of t = taxonomy_meaning (leaves_of t) (groups_of t) t.sound
