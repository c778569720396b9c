-- One step of reading a line, and of looking for the next one. Assumes nothing.
use Rattle.std.proofs.Common.{◌≡◌, ℕ, zero, suc, ◌+◌, ◌-◌, ◌<◌, ◌≤◌, min, true, false, cond, ◌&&◌, eqb, List, [], ◌∷◌, length, drop, sym, refl, ap, ◌∙◌, ⊎_elim, arith, length-drop}
use native.Mathlib.Nat.{min-eq_left, min-eq_right}
use Rattle.std.proofs.lemmas.List.{drop_all, drop-drop}
use Rattle.std.proofs.lemmas.Bool.{cases_lt, cases_Bool, cond-true, cond-false, and_parts, both_ways}
use Rattle.rfc4180.specs.Grammar.{FieldText, written}
use Rattle.rfc4180.specs.Reading.{begins_with_lf, behind_line_end, FieldRead, whole, faulty, LineRead, cut, before, read_field, behind_field, after_field, read_fields, read_line}

pub drop_clipped : {X : Type 0} (n : ℕ) (xs : List X) → drop (min n (length xs)) xs ≡ drop n xs
drop_clipped n xs =
    ⊎_elim
    (λ h. let k : n ≤ length xs = omega arith in ap (λ i. drop i xs) (min-eq_left k))
    (λ h. ap (λ i. drop i xs) (min-eq_right h) ∙ drop_all (length xs) xs (omega arith) ∙ sym (drop_all n xs h))
    (cases_lt n (length xs))

-- What is behind the first line end is a part of the text, from some place to its end.

record Behind (xs : List ℕ) : Type 0 where
  from : ℕ
  within : from ≤ length xs
  is : behind_line_end xs ≡ drop from xs

behind_suffix : (xs : List ℕ) → Behind xs
behind_suffix [] = record { from = 0; within = omega arith; is = refl }
behind_suffix (b ∷ bs) =
    let rest = behind_suffix bs in
    ⊎_elim
    (λ h. record { from = 2; within = omega (arith, some bs (and_parts (eqb b 13) (begins_with_lf bs) h).1); is = cond-true (eqb b 13 && begins_with_lf bs) (drop 1 bs) (behind_line_end bs) h })
    (λ h. record { from = suc rest.from; within = omega (arith, rest.within); is = cond-false (eqb b 13 && begins_with_lf bs) (drop 1 bs) (behind_line_end bs) h ∙ rest.is })
    (cases_Bool (eqb b 13 && begins_with_lf bs))
  where
    some : (xs : List ℕ) → begins_with_lf xs ≡ true → 1 ≤ length xs
    some [] h = absurd (both_ways false refl h)
    some (x ∷ xs) h = omega arith

behind_place : (k m : ℕ) (rest : List ℕ) (text : List ℕ) → rest ≡ drop k (drop m text) → k + m ≤ length text → drop (length text - length rest) text ≡ rest
behind_place k m rest text e h =
    let same : rest ≡ drop (m + k) text = e ∙ drop-drop k m text in
    let long = ap length same ∙ length-drop (m + k) text in
    let here : length text - length rest ≡ m + k = omega arith in
    ap (λ i. drop i text) here ∙ sym same

pub behind_is : (text : List ℕ) (from : ℕ) → drop (length text - length (behind_line_end (drop from text))) text ≡ behind_line_end (drop from text)
behind_is text from =
    let b = behind_suffix (drop from text) in
    let w = b.within in
    ⊎_elim
    (λ h. behind_place b.from from (behind_line_end (drop from text)) text b.is (omega (arith, length-drop from text)))
    (λ h.
    let none : behind_line_end (drop from text) ≡ [] = ap behind_line_end (drop_all from text h) in
    let zero_long = ap length none in
    drop_all (length text - length (behind_line_end (drop from text))) text (omega arith) ∙ sym none)
    (cases_lt from (length text))

-- Reading a line does not depend on how many fields are allowed, if they are more than the bytes.

behind_same : (f g : List ℕ → LineRead) (x : FieldText) (ys : List ℕ) → ((zs : List ℕ) → length zs < length ys → f zs ≡ g zs) → behind_field f x ys ≡ behind_field g x ys
behind_same f g x [] h = refl
behind_same f g x (b ∷ bs) h = ap (λ l. cond (eqb b 44) (before x l) (cut [] x (drop 1 bs))) (h bs (omega arith))

after_same : (f g : List ℕ → LineRead) (text : List ℕ) (r : FieldRead) → ((zs : List ℕ) → length zs < length text → f zs ≡ g zs) → after_field f text r ≡ after_field g text r
after_same f g text (whole x) h = behind_same f g x (drop (length (written x)) text) (λ zs s. h zs (omega (arith, length-drop (length (written x)) text)))
after_same f g text (faulty w n) h = refl

enough : (j k : ℕ) (text : List ℕ) → length text < j → length text < k → read_fields j text ≡ read_fields k text
enough zero k text p q = absurd (omega arith)
enough (suc j) zero text p q = absurd (omega arith)
enough (suc j) (suc k) text p q = after_same (read_fields j) (read_fields k) text (read_field text) (λ zs s. enough j k zs (omega arith) (omega arith))

-- so it goes field by field
pub line_step : (text : List ℕ) → read_line text ≡ after_field read_line text (read_field text)
line_step text = after_same (read_fields (length text)) read_line text (read_field text) (λ zs s. enough (length text) (suc (length zs)) zs s (omega arith))
