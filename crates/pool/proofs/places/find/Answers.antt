use Rattle.std.proofs.Common.{◌≡◌, rules, tests}
use Rattle.std.proofs.lemmas.Iterator.{YieldsList-from_slice}
use Rattle.std.proofs.lemmas.Iterator.Search.{position_from_yields_List}
use Rattle.pool.specs.Places.{place_of, Finds}
use Rattle.pool.proofs.Rows.{labelled, finds, found, held_found}
use Rattle.pool.proofs.places.find.Goals as goal

pub returns : goal.returns
returns c =
    let l = c.args.label in
    let xs = c.args.clusters.now in
    let r = c.position.result in
    let value : r ≡ place_of l xs = position_from_yields_List (labelled l xs) _ _ r c.position.ensures.ran (YieldsList-from_slice xs cc) (λ x b q k. search (rules, tests)) in
    let first : Finds xs l r = finds l xs r value in
    record { value = value; first = first; found = found l xs r first; held = λ m hs h t o e. held_found l xs m hs h r first t o e }
