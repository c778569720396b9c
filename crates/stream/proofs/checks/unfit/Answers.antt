use Rattle.std.proofs.Common.{◌≡◌, ℕ, ◌+◌, Bool, not, ◌∷◌, map, sym, refl, ap, ◌∙◌, arith, rules, tests}
use Rattle.std.specs.Option.{option_map}
use Rattle.std.specs.List.{range_with_len, find}
use Rattle.std.proofs.lemmas.Bool.{ne_eqb}
use Rattle.std.proofs.lemmas.Iterator.{YieldsList-from_range}
use Rattle.std.proofs.lemmas.Iterator.Search.{find_from_yields_List}
use Rattle.domain.specs.Meaning.{admits_of}
use Rattle.domain.specs.Boxes.{value_at, known_count, attributes}
use Rattle.rules.specs.Refusals.{if_so, first_of}
use Rattle.stream.proofs.Firsts.{found_first, map_same}
use Rattle.stream.proofs.checks.unfit.Goals as goal

pub returns : goal.returns
returns g c =
    let m = g.D.Domain.meaning c.args.d.now in
    let r = c.args.fed.now in
    let n = c.min.result in
    let bad : ℕ → Bool = λ i. not (admits_of m i (value_at r.values i)) in
    let found : option_map (λ x. x) c.find.result ≡ find bad (range_with_len 0 n) = find_from_yields_List bad _ _ c.find.result c.find.ensures.ran (YieldsList-from_range 0 n n refl (omega arith)) (λ x b q k. search (rules, tests)) in
    let mapped : c.map.result ≡ option_map (λ i. i + 2) c.find.result = search rules in
    let all : n ≡ known_count m = omega arith in
    mapped ∙ ap (option_map (λ i. i + 2)) (sym (map_same c.find.result) ∙ found) ∙ found_first bad (λ i. i + 2) (range_with_len 0 n)
    ∙ ap (λ k. first_of (map (λ i. if_so (bad i) (i + 2)) (range_with_len 0 k))) all
    ∙ sym (ap (λ b. first_of (if_so b 1 ∷ map (λ i. if_so (bad i) (i + 2)) (attributes m))) (ne_eqb r.owner 0 c.if-fed-eq0.false))
