-- The members of a part, and the box around them.
use Rattle.std.proofs.Common.{◌≡◌, ℕ, Bool, true, false, cond, List, [], ◌∷◌, map, fold, filter, Option, Some, None, unwrap_or, refl, ap}
use Rattle.domain.specs.Boxes.{point_box}
use Rattle.domain.specs.Meaning.{Meaning}
use Rattle.rules.specs.declared.Entry.{Entry}
use Rattle.rules.specs.Clusters.{Box, no_box, values, widened, box_of}
use Rattle.split.specs.declared.Member.{Member}
use Rattle.split.specs.Parted.{of_part, entries, says, marked}
use Rattle.pool.specs.Tables as tables

-- ---- the box, as `fold` makes it

module _ (m : Meaning) where
  widens : (b : Box) (ms : List Member) → fold (λ o x. Some (tables.widened m o (values x.entry))) (Some b) ms ≡ Some (fold (widened m) b (entries ms))
  widens b [] = refl
  widens b (x ∷ ms) = widens (widened m b x.entry) ms

  pub boxes_fold : (ms : List Member) → unwrap_or (fold (λ o x. Some (tables.widened m o (values x.entry))) None ms) no_box ≡ box_of m (entries ms)
  boxes_fold [] = refl
  boxes_fold (x ∷ ms) = ap (λ o. unwrap_or o no_box) (widens (point_box m (values x.entry)) ms)

-- ---- records as members, each at the place that its record has

pub entries_of : (place : Entry → Option ℕ) (es : List Entry) → entries (map (λ e. of_part (place e) e) es) ≡ es
entries_of place [] = refl
entries_of place (e ∷ es) = ap (λ l. e ∷ l) (entries_of place es)

pub marked_of : (j : ℕ) (place : Entry → Option ℕ) (es : List Entry) → marked j (map (λ e. of_part (place e) e) es) ≡ filter (λ e. says j (place e)) es
marked_of j place [] = refl
marked_of j place (e ∷ es) = go (says j (place e)) (marked_of j place es)
  where
    ms : List Member
    ms = filter (λ x. says j x.part) (map (λ e. of_part (place e) e) es)

    go : (b : Bool) → entries ms ≡ filter (λ e. says j (place e)) es → entries (cond b (of_part (place e) e ∷ ms) ms) ≡ cond b (e ∷ filter (λ e. says j (place e)) es) (filter (λ e. says j (place e)) es)
    go true ih = ap (λ l. e ∷ l) ih
    go false ih = ih
