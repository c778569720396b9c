use Rattle.std.proofs.Common.{◌≡◌, ◌<◌, eqb, leb, length, IfSome, sym, ap, ◌∙◌, subst, rules, tests}
use Rattle.std.proofs.lemmas.Iterator.{YieldsList-from_slice, YieldsList-from_map}
use Rattle.std.proofs.lemmas.Iterator.Consumers.{YieldsList-at}
use Rattle.std.proofs.lemmas.Iterator.Search.{position_from_yields_List, YieldsList-from_take_while}
use Rattle.rules.specs.States.{deadline}
use Rattle.stream.specs.Places.{held_at}
use Rattle.stream.proofs.Deadlines.{due_in, due_found, due_within}
use Rattle.stream.proofs.dues.due.Goals as goal

pub returns : goal.returns
returns c =
    let n = c.args.accepted in
    let g = c.args.settings.now in
    let hs = c.args.held.now in
    let at : c.position.result ≡ due_in g n hs = position_from_yields_List (λ d. eqb d n) _ _ c.position.result c.position.ensures.ran
    (YieldsList-from_take_while _ (λ d. leb d n) (YieldsList-at c.take_while.ensures.source (YieldsList-from_map _ (λ h. deadline g h.entry) (YieldsList-at c.map.ensures.source (YieldsList-from_slice hs cc)) c.map.ensures.closure (λ x r q k. search rules))) c.take_while.ensures.closure c.take_while.ensures.done (λ x b q k. search (rules, tests)))
    (λ x b q k. search (rules, tests)) in
    record {
      within = subst (λ o. IfSome o (λ i. i < length hs)) (sym at) (due_within g n hs);
      first = λ s e f b. ap (held_at s.held) (at ∙ ap (due_in g n) (sym e)) ∙ due_found g n s f s.held b;
    }
