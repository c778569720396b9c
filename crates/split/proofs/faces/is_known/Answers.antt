use Rattle.std.proofs.Common.{eqb, ◌∙◌, rules, tests}
use Rattle.std.proofs.lemmas.Iterator.{YieldsList-from_slice}
use Rattle.std.proofs.lemmas.Iterator.Search.{any_from_yields_List}
use Rattle.split.specs.Faces.{owner_of}
use Rattle.split.proofs.Chains.{listed_any}
use Rattle.split.proofs.faces.is_known.Goals as goal

pub returns : goal.returns
returns c =
    any_from_yields_List (λ f. eqb (owner_of f) c.args.owner) _ _ _ c.any.ensures.ran (YieldsList-from_slice c.args.faces.now cc) (λ x b q k. search (rules, tests))
    ∙ listed_any owner_of c.args.owner c.args.faces.now
