use Rattle.std.proofs.Common.{◌-◌, [], ◌∷◌, length, sym, refl, ap, ◌∙◌}
use Rattle.std.specs.Bool.{then_some}
use Rattle.std.specs.Option.{option_to_list}
use Rattle.std.proofs.ByRecursion.{All-get_or}
use Rattle.std.proofs.lemmas.Bool.{both_ways}
use Rattle.std.proofs.lemmas.List.Quantifiers.{position-Some}
use Rattle.keeper.specs.Ranks.{lower}
use Rattle.keeper.proofs.Passes.{put_moves, put_last}
use Rattle.keeper.proofs.Keepers.{takes_from}
use Rattle.keeper.proofs.offer.Goals as goal

pub returns-in-Some-clause-takes : goal.returns-in-Some-clause-takes
returns-in-Some-clause-takes g c = λ l given h.
    let k = g.T.Ranked in
    let before = c.args.places.now in
    let out = c.replace-out.result in
    let moves = put_moves k.rank c.args.item before c.rotate_right.new.self c.in-Some.at (length before - c.in-Some.at) _ out _
    c.replace-out.ensures.after (sym c.place_for.ensures ∙ c.in-Some.is) refl c.rotate_right.ensures.after c.replace-out.ensures.value in
    takes_from k.rank k.empty before given _ c.args.item out _ l moves (ap option_to_list (c.then_some.ensures ∙ ap (λ t. then_some t out) c.is_item-in-Some.ensures)) h

pub returns-in-Some-clause-finds_no_place : goal.returns-in-Some-clause-finds_no_place
returns-in-Some-clause-finds_no_place g c = λ a.
    let k = g.T.Ranked in
    let before = c.args.places.now in
    let at = position-Some (λ x. lower (k.rank c.args.item) (k.rank x)) before c.in-Some.at c.args.item (sym c.place_for.ensures ∙ c.in-Some.is) in
    absurd (both_ways _ (All-get_or _ before c.in-Some.at c.args.item at.0 a) at.1)

pub returns-in-None-clause-takes : goal.returns-in-None-clause-takes
returns-in-None-clause-takes g c = λ l given h.
    let k = g.T.Ranked in
    let item = c.args.item in
    let before = c.args.places.now in
    takes_from k.rank k.empty before given before item item (item ∷ []) l (put_last k.rank item before (sym c.place_for.ensures ∙ c.in-None.is)) (ap (λ t. option_to_list (then_some t item)) (sym l)) h
