-- The members of a part, written one by one.
use Rattle.std.proofs.Common.{◌≡◌, ℕ, zero, suc, ◌+◌, ◌-◌, ◌<◌, ◌≤◌, min, Bool, true, false, cond, eqb, List, [], ◌∷◌, ◌++◌, map, length, get_or, take, set, filter, Some, None, Option, sym, refl, ap, ◌∙◌, subst, arith}
use Rattle.std.specs.List.{between}
use Rattle.std.specs.Option.{option_eq}
use Rattle.std.proofs.lemmas.List.{length-map, length_push, map_push, map-append, append-nil, take_more}
use Rattle.std.proofs.lemmas.List.Elements.{filter-append}
use Rattle.release.specs.declared.Line.{Line}
use Rattle.rules.specs.Clusters.{Box}
use Rattle.split.specs.declared.Member.{Member}
use Rattle.split.specs.Parted.{says, entries, marked}
use Rattle.stream.specs.Writing.{released, Writes}
use Rattle.stream.proofs.Writing.{writes_one, writes_more, space}
use borrow.Rule.Slice.PartMut.{put_mid}

pub eq_says : (o : Option ℕ) (j : ℕ) → option_eq eqb o (Some j) ≡ says j o
eq_says (Some i) j = refl
eq_says None j = refl

marked_le : (j : ℕ) (ms : List Member) (i : ℕ) → length (marked j (take i ms)) ≤ length (marked j ms)
marked_le j ms zero = omega arith
marked_le j [] (suc i) = omega arith
marked_le j (x ∷ ms) (suc i) = go (says j x.part) (marked_le j ms i)
  where
    go : (b : Bool) → length (marked j (take i ms)) ≤ length (marked j ms)
        → length (entries (cond b (x ∷ filter (λ y. says j y.part) (take i ms)) (filter (λ y. says j y.part) (take i ms)))) ≤ length (entries (cond b (x ∷ filter (λ y. says j y.part) ms) (filter (λ y. says j y.part) ms)))
    go true ih = omega (arith, ih)
    go false ih = ih

-- one member more
module _ (j : ℕ) (ms : List Member) (i : ℕ) (x : Member) (h : i < length ms) where
  one_more : marked j (take (i + 1) ms) ≡ marked j (take i ms) ++ entries (cond (says j (get_or ms i x).part) (get_or ms i x ∷ []) [])
  one_more =
      ap (marked j) (take_more ms i x h) ∙ ap entries (filter-append (λ y. says j y.part) (take i ms) (get_or ms i x ∷ []))
      ∙ map-append (λ (y : Member). y.entry) (filter (λ y. says j y.part) (take i ms)) (cond (says j (get_or ms i x).part) (get_or ms i x ∷ []) [])

  marked_takes : says j (get_or ms i x).part ≡ true → marked j (take (i + 1) ms) ≡ marked j (take i ms) ++ (get_or ms i x).entry ∷ []
  marked_takes is = one_more ∙ ap (λ b. marked j (take i ms) ++ entries (cond b (get_or ms i x ∷ []) [])) is

  pub marked_passes : says j (get_or ms i x).part ≡ false → marked j (take (i + 1) ms) ≡ marked j (take i ms)
  marked_passes not = one_more ∙ ap (λ b. marked j (take i ms) ++ entries (cond b (get_or ms i x ∷ []) [])) not ∙ append-nil (marked j (take i ms))

  module _ (number : ℕ) (ranges : Box) (is : option_eq eqb (get_or ms i x).part (Some j) ≡ true) where
    pub part_takes : (before list : List Line) (n : ℕ) → n ≤ length list → Writes (map (released number ranges) (marked j (take i ms))) before list n → length (marked j ms) ≤ length before
        → (line : Line) (part : List Line) (k : ℕ) → line ≡ released number ranges (get_or ms i x).entry → part ≡ set (between n (length list) list) 0 line → k ≡ min 1 (length (between n (length list) list))
        → Writes (map (released number ranges) (marked j (take (i + 1) ms))) before (put_mid n (length list - n) list part) (n + k)
    part_takes before list n room w fits line part k is_line put one =
        let es = marked j (take i ms) in
        let e = (get_or ms i x).entry in
        let more : marked j (take (i + 1) ms) ≡ es ++ e ∷ [] = marked_takes (sym (eq_says (get_or ms i x).part j) ∙ is) in
        let fewer : length es + 1 ≤ length (marked j ms) = omega (arith, marked_le j ms (i + 1), ap length more, length_push es e) in
        let some : 0 < length (between n (length list) list) = space (map (released number ranges) es) before list n room w 1 (omega (arith, fewer, fits, length-map es (released number ranges))) in
        subst (λ ls. Writes ls before (put_mid n (length list - n) list part) (n + k))
        (sym (ap (map (released number ranges)) more ∙ map_push (released number ranges) es e))
        (writes_more (map (released number ranges) es) before list n room w (released number ranges e ∷ []) part k (writes_one (released number ranges e) (between n (length list) list) part k some (put ∙ ap (set (between n (length list) list) 0) is_line) one))
