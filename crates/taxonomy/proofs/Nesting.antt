-- The tests of the groups, as the code makes them, and one group more.
use Rattle.std.proofs.Common.{◌≡◌, ℕ, ◌-◌, true, ◌&&◌, ◌||◌, List, [], ◌∷◌, ◌++◌, refl, ap, ◌∙◌, subst, arith}
use mathlib.Core.Bool.{Bool-set}
use Rattle.std.specs.List.{list_any}
use Rattle.std.proofs.lemmas.Bool.{and_parts, and_from, cond-true}
use Rattle.std.proofs.lemmas.List.Folds.{list_all-append}
use Rattle.std.proofs.lemmas.Bool.Decides.{nat_tests}
use Rattle.domain.specs.declared.range.Range.{Range}
use Rattle.domain.specs.Boxes.{all_pass}
use Rattle.domain.specs.Interval.{interval_meaning}
use Rattle.domain.specs.IntervalFacts.{fits_from}
use Rattle.domain.specs.Meaning.{loss_of, share}
use Rattle.domain.specs.Ranges.{fits}
use Rattle.taxonomy.specs.declared.Taxonomy.{Taxonomy}
use Rattle.taxonomy.specs.Groups.{whole, nested, in_tree, well_nested, same, among, allowed}
use Rattle.taxonomy.specs.Taxonomy.{taxonomy_meaning, leaves_of, groups_of, taxonomy_of}
use Rattle.taxonomy.specs.TaxonomyFacts.{in_tree_tells, in_whole}

other_way : (a y : Range) → same y a ≡ same a y
other_way a y = grind (arith, nat_tests)

-- what `contains` tells of the groups
pub any_among : (gs : List Range) (a : Range) → list_any (λ y. same y a) gs ≡ among a gs
any_among [] a = refl
any_among (g ∷ gs) a = ap (λ b. b || list_any (λ y. same y a) gs) (other_way a g) ∙ ap (λ b. same a g || b) (any_among gs a)

-- ---- the loss of an allowed range is that of the interval

pub share_in_tree : (m : ℕ) (gs : List Range) (a : Range) → allowed m gs a ≡ true → loss_of (interval_meaning 0 (m - 1)) 0 a ≡ share (whole m) a
share_in_tree m gs a p =
    let tells = in_tree_tells m gs a p in
    cond-true (fits (whole m) a) (share (whole m) a) 0 (fits_from (whole m) a (record { ordered = tells.ordered; inside = in_whole m gs a p }))

-- ---- the leaves and the groups are the whole meaning

same_leaves : (m k : ℕ) (gs : List Range) (d : well_nested m gs ≡ true) → m ≡ k → (e : well_nested k gs ≡ true) → taxonomy_meaning m gs d ≡ taxonomy_meaning k gs e
same_leaves m k gs d p =
    subst (λ (n : ℕ). (e : well_nested n gs ≡ true) → taxonomy_meaning m gs d ≡ taxonomy_meaning n gs e) p (λ e. ap (taxonomy_meaning m gs) (Bool-set (well_nested m gs) true d e))

same_groups : (m : ℕ) (gs hs : List Range) (d : well_nested m gs ≡ true) → gs ≡ hs → (e : well_nested m hs ≡ true) → taxonomy_meaning m gs d ≡ taxonomy_meaning m hs e
same_groups m gs hs d p =
    subst (λ (l : List Range). (e : well_nested m l ≡ true) → taxonomy_meaning m gs d ≡ taxonomy_meaning m l e) p (λ e. ap (taxonomy_meaning m gs) (Bool-set (well_nested m gs) true d e))

pub taxonomy_is : (t : Taxonomy) (m : ℕ) (gs : List Range) (e : well_nested m gs ≡ true) → leaves_of t ≡ m → groups_of t ≡ gs → taxonomy_of t ≡ taxonomy_meaning m gs e
taxonomy_is t m gs e p q =
    let mid : well_nested m (groups_of t) ≡ true = subst (λ (n : ℕ). well_nested n (groups_of t) ≡ true) p t.sound in
    same_leaves (leaves_of t) m (groups_of t) t.sound p mid ∙ same_groups m (groups_of t) gs mid q e

-- ---- one group more

all_pass_push : (g x : Range) (hs : List Range) → all_pass (nested g) hs ≡ true → nested g x ≡ true → all_pass (nested g) (hs ++ (x ∷ [])) ≡ true
all_pass_push g x hs e f = list_all-append (nested g) hs (x ∷ []) ∙ and_from (all_pass (nested g) hs) (nested g x && true) e (and_from (nested g x) true f refl)

pub well_nested_push : (m : ℕ) (gs : List Range) (x : Range) → well_nested m gs ≡ true → in_tree m x ≡ true → all_pass (λ h. nested h x) gs ≡ true → well_nested m (gs ++ (x ∷ [])) ≡ true
well_nested_push m [] x e k f = and_from (in_tree m x) true k refl
well_nested_push m (g ∷ gs) x e k f =
    let q = and_parts (in_tree m g) (all_pass (nested g) gs && well_nested m gs) e in
    let r = and_parts (all_pass (nested g) gs) (well_nested m gs) q.1 in
    let s = and_parts (nested g x) (all_pass (λ h. nested h x) gs) f in
    and_from (in_tree m g) (all_pass (nested g) (gs ++ (x ∷ [])) && well_nested m (gs ++ (x ∷ []))) q.0
    (and_from (all_pass (nested g) (gs ++ (x ∷ []))) (well_nested m (gs ++ (x ∷ []))) (all_pass_push g x gs r.0 s.0) (well_nested_push m gs x r.1 k s.1))
