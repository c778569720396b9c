use Rattle.std.proofs.Common.{◌≡◌, option_map, option_copied, ap, ◌∙◌, rules, tests}
use Rattle.std.proofs.lemmas.Iterator.{YieldsList-from_slice}
use Rattle.std.proofs.lemmas.Iterator.Search.{find_from_yields_List}
use Rattle.split.specs.Faces.{lacks_part}
use Rattle.split.proofs.Chains.{first_found}
use Rattle.split.proofs.making.first_remaining.Goals as goal

pub returns : goal.returns
returns c =
    let found = find_from_yields_List lacks_part _ _ c.find.result c.find.ensures.ran (YieldsList-from_slice c.args.faces.now cc) (λ x b q k. search (rules, tests)) in
    let of : c.map.result ≡ option_map (λ f. f.stand_in) (option_copied c.find.result) = search rules in
    of ∙ ap (option_map (λ f. f.stand_in)) found ∙ first_found c.args.faces.now
