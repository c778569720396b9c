-- Lines put at the front of a list, one after the other.
use Rattle.std.proofs.Common.{◌≡◌, ℕ, ◌+◌, ◌-◌, ◌<◌, ◌≤◌, List, [], ◌∷◌, ◌++◌, min, length, take, drop, set, sym, refl, ap, ◌∙◌, arith}
use Rattle.std.specs.List.{between}
use Rattle.std.proofs.lemmas.List.{append-nil, append_assoc, length-append, length-drop, take_at, drop_at, drop-drop, drop_all}
use Rattle.std.proofs.lemmas.Slice.{between_to_end}
use borrow.Rule.Slice.PartMut.{put_mid}
use Rattle.release.specs.declared.Line.{Line}
use Rattle.stream.specs.Writing.{put_front, Writes}

pub writes_none : (list : List Line) → Writes [] list list 0
writes_none list = record { lines = refl; counts = refl }

pub length_put : (ls list : List Line) → length ls ≤ length list → length (put_front ls list) ≡ length list
length_put ls list l = length-append ls (drop (length ls) list) ∙ omega (arith, length-drop (length ls) list)

pub take_put : (ls list : List Line) → take (length ls) (put_front ls list) ≡ ls
take_put ls list = take_at ls (drop (length ls) list) (length ls) refl

pub drop_put : (ls list : List Line) → drop (length ls) (put_front ls list) ≡ drop (length ls) list
drop_put ls list = drop_at ls (drop (length ls) list) (length ls) refl

pub put_one : (l : Line) (list : List Line) → 0 < length list → set list 0 l ≡ put_front (l ∷ []) list
put_one l [] h = absurd (omega (arith, h))
put_one l (x ∷ list) h = refl

pub writes_one : (l : Line) (list after : List Line) (n : ℕ) → 0 < length list → after ≡ set list 0 l → n ≡ min 1 (length list) → Writes (l ∷ []) list after n
writes_one l list after n h a c = record { lines = a ∙ put_one l list h; counts = omega arith }

-- n lines were written, and then k at the front of what stands behind them
module _ (ls before list : List Line) (n : ℕ) (h : n ≤ length list) (w : Writes ls before list n) where
  pub behind : between n (length list) list ≡ drop (length ls) before
  behind = between_to_end list n (length list) (omega arith) ∙ ap (drop n) w.lines ∙ ap (λ i. drop i (put_front ls before)) w.counts ∙ drop_put ls before

  pub writes_more : (ks part : List Line) (k : ℕ) → Writes ks (between n (length list) list) part k → Writes (ls ++ ks) before (put_mid n (length list - n) list part) (n + k)
  writes_more ks part k v =
      let ahead : take n list ≡ ls = ap (take n) w.lines ∙ ap (λ i. take i (put_front ls before)) w.counts ∙ take_put ls before in
      let none : drop (length list - n) (drop n list) ≡ [] = drop_all (length list - n) (drop n list) (omega (arith, length-drop n list)) in
      record {
        lines = ap (λ t. t ++ (part ++ drop (length list - n) (drop n list))) ahead ∙ ap (λ t. ls ++ (part ++ t)) none ∙ ap (λ t. ls ++ t) (append-nil part ∙ v.lines ∙ ap (put_front ks) behind)
            ∙ sym (append_assoc ls ks (drop (length ks) (drop (length ls) before))) ∙ ap (λ t. (ls ++ ks) ++ t) (drop-drop (length ks) (length ls) before ∙ ap (λ i. drop i before) (sym (length-append ls ks)));
        counts = omega (arith, w.counts, v.counts, length-append ls ks);
      }

  -- there is a place for k lines more
  pub space : (k : ℕ) → length ls + k ≤ length before → k ≤ length (between n (length list) list)
  space k l = omega (arith, l, ap length behind, length-drop (length ls) before)
