-- The owners that remain without a part.
use Rattle.std.proofs.Common.{◌≡◌, ℕ, ◌+◌, ◌<◌, Bool, true, false, cond, not, ◌&&◌, List, [], ◌∷◌, ◌++◌, map, length, get_or, take, filter, refl, ap, ◌∙◌}
use Rattle.std.proofs.lemmas.List.{map-append}
use Rattle.std.proofs.lemmas.List.Elements.{filter-append, filter_more}
use Rattle.rules.specs.declared.Entry.{Entry}
use Rattle.rules.specs.Choosing.{listed}
use Rattle.rules.specs.Clusters.{owner}
use Rattle.split.specs.declared.faces.Face.{Face}
use Rattle.split.specs.Faces.{owner_of, lacks_part}
use Rattle.split.specs.Near.{remaining, others_than}

pub remaining_more : (fs : List Face) (i : ℕ) (d : Face) → i < length fs → remaining (take (i + 1) fs) ≡ remaining (take i fs) ++ cond (lacks_part (get_or fs i d)) ((get_or fs i d).stand_in ∷ []) []
remaining_more fs i d l =
    ap (map (λ f. f.stand_in)) (filter_more lacks_part fs i d l)
    ∙ map-append (λ f. f.stand_in) (filter lacks_part (take i fs)) (cond (lacks_part (get_or fs i d)) (get_or fs i d ∷ []) [])
    ∙ ap (λ l. remaining (take i fs) ++ l) (one (lacks_part (get_or fs i d)))
  where
    one : (b : Bool) → map (λ f. f.stand_in) (cond b (get_or fs i d ∷ []) []) ≡ cond b ((get_or fs i d).stand_in ∷ []) []
    one true = refl
    one false = refl

-- without the seed
pub others_more : (seed : Entry) (fs : List Face) (i : ℕ) (d : Face) → i < length fs
    → others_than seed (remaining (take (i + 1) fs)) ≡ others_than seed (remaining (take i fs)) ++ cond (lacks_part (get_or fs i d) && not (listed (owner_of (get_or fs i d)) (owner seed ∷ []))) ((get_or fs i d).stand_in ∷ []) []
others_more seed fs i d l =
    ap (others_than seed) (remaining_more fs i d l)
    ∙ filter-append (λ e. not (listed (owner e) (owner seed ∷ []))) (remaining (take i fs)) (cond (lacks_part (get_or fs i d)) ((get_or fs i d).stand_in ∷ []) [])
    ∙ ap (λ l. others_than seed (remaining (take i fs)) ++ l) (one (lacks_part (get_or fs i d)))
  where
    one : (b : Bool) → others_than seed (cond b ((get_or fs i d).stand_in ∷ []) []) ≡ cond (b && not (listed (owner_of (get_or fs i d)) (owner seed ∷ []))) ((get_or fs i d).stand_in ∷ []) []
    one true = refl
    one false = refl
