use Rattle.std.proofs.Common.{filter, sym, ◌∙◌, rules, tests}
use Rattle.std.proofs.lemmas.Iterator.{YieldsList-from_slice}
use Rattle.std.proofs.lemmas.Iterator.Consumers.{YieldsList-from_filter, count_from_yields_List}
use Rattle.std.proofs.lemmas.List.{length-map}
use Rattle.split.specs.Faces.{lacks_part}
use Rattle.split.proofs.making.count_remaining.Goals as goal

pub returns : goal.returns
returns c =
    count_from_yields_List c.filter.result _ c.count.ensures.ran (YieldsList-from_filter _ lacks_part (YieldsList-from_slice c.args.faces.now cc) c.filter.ensures.closure (λ x b q k. search (rules, tests)))
    ∙ sym (length-map (filter lacks_part c.args.faces.now) (λ f. f.stand_in))
