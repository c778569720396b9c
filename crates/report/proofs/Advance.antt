-- What is left behind a line: a shorter part of the text, from some place to its end. Assumes nothing.
use Rattle.std.proofs.Common.{◌≡◌, ℕ, ◌+◌, ◌-◌, ◌<◌, ◌≤◌, false, ◌&&◌, eqb, List, [], ◌∷◌, ◌++◌, length, drop, sym, refl, ap, ◌∙◌, subst, ⊎_elim, append_assoc, arith, length-append, length-drop}
use Rattle.std.proofs.lemmas.List.{drop_at, drop-drop, drop_all}
use Rattle.std.proofs.lemmas.Bool.{cases_Bool, cond-true, cond-false}
use Rattle.rfc4180.specs.Grammar.{FieldText, written, with_commas, Derives}
use Rattle.rfc4180.specs.Laws as laws
use Rattle.rfc4180.specs.Faults.{faulty_field}
use Rattle.rfc4180.specs.Reading.{Wrong, not_allowed, unclosed, LineRead, cut, damaged, read_line, behind_line_end}
use Rattle.rfc4180.specs.Told.{text_fault, field_behind, line_answer}
use Rattle.rfc4180.proofs.Damages.{agrees}
use Rattle.rfc4180.proofs.LineSteps.{behind_is}
use Rattle.report.specs.Lines.{left_by, left, size}
use Rattle.report.specs.Readers.{lines_more, place_behind}

pub record Advances (xs rest : List ℕ) : Type 0 where
  pub suffix : drop (length xs - length rest) xs ≡ rest
  pub shorter : 0 < length xs → length rest < length xs
  pub within : length rest ≤ length xs

-- text that ends in rest
by_split : (front rest xs : List ℕ) → xs ≡ front ++ rest → (0 < length xs → 0 < length front) → Advances xs rest
by_split front rest xs e some =
    let long = ap length e ∙ length-append front rest in
    let here : length xs - length rest ≡ length front = omega arith in
    record {
      suffix = ap (λ k. drop k xs) here ∙ ap (drop (length front)) e ∙ drop_at front rest (length front) refl;
      shorter = λ h. let k = some h in omega arith;
      within = omega arith;
    }

line_advances : (xs : List ℕ) (front : List FieldText) (last : FieldText) (rest : List ℕ) → Derives xs front last rest → Advances xs rest
line_advances xs front last rest d =
    let F = with_commas front in
    let L = written last in
    ⊎_elim
    (λ e.
    by_split (F ++ (L ++ 13 ∷ 10 ∷ [])) rest xs
    (d.split ∙ ap (λ b. F ++ (L ++ b)) e ∙ sym (append_assoc F (L ++ 13 ∷ 10 ∷ []) rest ∙ ap (λ l. F ++ l) (append_assoc L (13 ∷ 10 ∷ []) rest)))
    (λ h. omega (arith, length-append F (L ++ 13 ∷ 10 ∷ []), length-append L (13 ∷ 10 ∷ []))))
    (λ e.
    subst (Advances xs) (sym e.1)
    (record { suffix = drop_all (length xs - 0) xs (omega arith); shorter = λ h. h; within = omega arith }))
    d.ends

end_shorter : (b : ℕ) (bs : List ℕ) → length (behind_line_end (b ∷ bs)) ≤ length bs
end_shorter b [] =
    ⊎_elim (λ h. omega (arith, ap length (cond-true (eqb b 13 && false) (drop 1 []) (behind_line_end []) h))) (λ h. omega (arith, ap length (cond-false (eqb b 13 && false) (drop 1 []) (behind_line_end []) h))) (cases_Bool (eqb b 13 && false))
end_shorter b (c ∷ cs) =
    let ih = end_shorter c cs in
    ⊎_elim
    (λ h. omega (arith, ap length (cond-true (eqb b 13 && eqb c 10) cs (behind_line_end (c ∷ cs)) h)))
    (λ h. omega (arith, ap length (cond-false (eqb b 13 && eqb c 10) cs (behind_line_end (c ∷ cs)) h)))
    (cases_Bool (eqb b 13 && eqb c 10))

behind_shorter : (ys : List ℕ) (n : ℕ) → length ys ≤ n → (0 < n → length (behind_line_end ys) < n) × (length (behind_line_end ys) ≤ n)
behind_shorter [] n h = (λ k. k, omega arith)
behind_shorter (b ∷ bs) n h = let s = end_shorter b bs in (λ k. omega arith, omega arith)

reading_advances : (xs : List ℕ) (r : LineRead) → laws.Means xs r → Advances xs (left_by xs r)
reading_advances xs (cut front last rest) m = line_advances xs front last rest m
reading_advances xs (damaged front w n) m =
    let k = length (with_commas front) in
    let s = behind_shorter (drop k xs) (length xs) (omega (arith, length-drop k xs)) in
    record { suffix = behind_is xs k; shorter = s.0; within = s.1 }

pub advances : (xs : List ℕ) → Advances xs (left xs)
advances xs = reading_advances xs (read_line xs) (agrees xs).means

-- In the whole text.

faulty_byte : (line place : ℕ) (front : List FieldText) (w : Wrong) (n : ℕ) → faulty_field (text_fault (field_behind line place front) w n) ≡ place + length (with_commas front)
faulty_byte line place front not_allowed n = refl
faulty_byte line place front unclosed n = refl

goes_on : (all : List ℕ) (line place : ℕ) (r : LineRead) → place_behind all (line_answer line place (length all) r) ≡ length all - length (left_by (drop place all) r)
goes_on all line place (cut front last rest) = refl
goes_on all line place (damaged front w n) =
    ap (λ k. length all - length (behind_line_end (drop k all))) (faulty_byte line place front w n)
    ∙ ap (λ l. length all - length (behind_line_end l)) (sym (drop-drop (length (with_commas front)) place all))

-- the place behind the line at this place
pub record Moved (all : List ℕ) (place next : ℕ) : Type 0 where
  pub place_is : next ≡ place + size (drop place all)
  pub unread : drop next all ≡ left (drop place all)
  pub within : next ≤ length all
  pub further : place < length all → place < next

pub moved : (all : List ℕ) (line place next : ℕ) → place ≤ length all → next ≡ place_behind all (line_answer line place (length all) (read_line (drop place all))) → Moved all place next
moved all line place next h e =
    let a = advances (drop place all) in
    let w = a.within in
    let long = length-drop place all in
    let is : next ≡ length all - length (left (drop place all)) = e ∙ goes_on all line place (read_line (drop place all)) in
    let at : next ≡ place + size (drop place all) = omega arith in
    record {
      place_is = at;
      unread = ap (λ k. drop k all) at ∙ sym (drop-drop (size (drop place all)) place all) ∙ a.suffix;
      within = omega arith;
      further = λ k. let s = a.shorter (omega arith) in omega arith;
    }

pub counted : (xs : List ℕ) → 0 < length xs → lines_more xs ≡ 1
counted [] h = absurd (omega arith)
counted (b ∷ bs) h = refl

pub record Stays (xs : List ℕ) : Type 0 where
  pub lines : lines_more xs ≡ 0
  pub size_is : size xs ≡ 0
  pub rest : xs ≡ left xs

pub stays : (xs : List ℕ) → length xs ≡ 0 → Stays xs
stays [] h = record { lines = refl; size_is = refl; rest = refl }
stays (b ∷ bs) h = absurd (omega arith)
