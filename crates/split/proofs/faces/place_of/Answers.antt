use Rattle.std.proofs.Common.{◌≡◌, eqb, option_and_then, option_copied, ap, ◌∙◌, rules, tests}
use Rattle.std.proofs.lemmas.Iterator.{YieldsList-from_slice}
use Rattle.std.proofs.lemmas.Iterator.Search.{find_from_yields_List}
use Rattle.split.specs.Faces.{owner_of}
use Rattle.split.proofs.Chains.{place_found}
use Rattle.split.proofs.faces.place_of.Goals as goal

pub returns : goal.returns
returns c =
    let found = find_from_yields_List (λ f. eqb (owner_of f) c.args.owner) _ _ c.find.result c.find.ensures.ran (YieldsList-from_slice c.args.faces.now cc) (λ x b q k. search (rules, tests)) in
    let of : c.and_then.result ≡ option_and_then (λ f. f.part) (option_copied c.find.result) = search rules in
    of ∙ ap (option_and_then (λ f. f.part)) found ∙ place_found c.args.owner c.args.faces.now
