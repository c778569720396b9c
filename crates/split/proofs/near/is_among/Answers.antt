use Rattle.std.proofs.Common.{eqb, ◌∙◌, rules, tests}
use Rattle.std.proofs.lemmas.Iterator.{YieldsList-from_slice}
use Rattle.std.proofs.lemmas.Iterator.Search.{any_from_yields_List}
use Rattle.split.proofs.Chains.{listed_any}
use Rattle.split.proofs.near.is_among.Goals as goal

pub returns : goal.returns
returns c =
    any_from_yields_List (λ n. eqb n.owner c.args.owner) _ _ _ c.any.ensures.ran (YieldsList-from_slice c.args.near.now cc) (λ x b q k. search (rules, tests))
    ∙ listed_any (λ n. n.owner) c.args.owner c.args.near.now
