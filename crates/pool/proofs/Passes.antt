-- A pass over a list that changes it in place.
use Rattle.std.proofs.Common.{◌≡◌, ℕ, ◌+◌, ◌<◌, List, ◌++◌, map, length, get_or, take, drop, set, sym, ap, ◌∙◌, arith}
use Rattle.std.proofs.lemmas.List.{length-append, length-map, length-take, length-drop, get_or_default}
use Rattle.std.proofs.lemmas.List.Edits.{map_over_more}

pub over_more : {X : Type 0} (f : X → X) (xs ys zs : List X) (i : ℕ) (d v : X) → i < length xs → ys ≡ map f (take i xs) ++ drop i xs → zs ≡ set ys i v → f (get_or ys i d) ≡ v → zs ≡ map f (take (i + 1) xs) ++ drop (i + 1) xs
over_more f xs ys zs i d v lt inv is e =
    let x = get_or ys i d in
    let within : i < length ys = omega (arith, lt, ap length inv, length-append (map f (take i xs)) (drop i xs), length-map (take i xs) f, length-take i xs, length-drop i xs) in
    is ∙ ap (set ys i) (sym e) ∙ map_over_more f xs ys i x lt inv (get_or_default ys i d x within)
